-- The row has the lanes of the slots so far, and with those that are left these are all.
use Rattle.std.proofs.Common.{◌≡◌, ◌≤◌, ◌++◌, length, map, Some}
use Rattle.std.specs.Vec.{vec_capacity}
use Rattle.std.specs.Vec.Iter.{into_iter_items, into_iter_len}
use Rattle.guards.proofs.lanes.in_row.Given as goal

abbrev pub invariant-loop-slot : goal.invariant-loop-slot
invariant-loop-slot g l = record {
  so_far : l.yielded ≡ map Some l.row.items;
  room : length l.fn.slots.items ≤ vec_capacity l.row;
  all : l.yielded ++ into_iter_items l.slot-iterator ≡ into_iter_items l.initial.slot-iterator;
  rest : into_iter_len l.slot-iterator ≡ length (into_iter_items l.slot-iterator);
}
