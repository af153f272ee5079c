-- The lanes so far are in slots, and with those that are left they are all.
use Rattle.std.proofs.Common.{◌≡◌, ◌≤◌, ◌++◌, length, map, Some}
use Rattle.std.specs.Vec.{vec_capacity}
use Rattle.std.specs.Vec.Iter.{into_iter_items, into_iter_len}
use Rattle.guards.proofs.lanes.in_slots.Given as goal

abbrev pub invariant-loop-lane : goal.invariant-loop-lane
invariant-loop-lane g l = record {
  so_far : l.slots.items ≡ map Some l.yielded;
  room : length l.fn.lanes.items ≤ vec_capacity l.slots;
  all : l.yielded ++ into_iter_items l.lane-iterator ≡ into_iter_items l.initial.lane-iterator;
  rest : into_iter_len l.lane-iterator ≡ length (into_iter_items l.lane-iterator);
}
