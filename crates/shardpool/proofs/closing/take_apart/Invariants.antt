-- The lanes so far are taken apart, and with those that are left they are all but the last.
use Rattle.std.proofs.Common.{◌≡◌, ◌+◌, ◌≤◌, ◌++◌, length}
use Rattle.std.specs.Vec.{vec_capacity}
use Rattle.std.specs.Vec.Iter.{into_iter_items, into_iter_len}
use Rattle.keybits.specs.declared.shape.TheConstants.{MOST_LANES, MOST_GUESTS}
use Rattle.shardpool.specs.Partings.{AreParted}
use Rattle.shardpool.proofs.closing.take_apart.Given as goal

abbrev pub invariant-loop-lane : goal.invariant-loop-lane
invariant-loop-lane g l = record {
  parted : AreParted g.T.Clear.content g.T.Clear.room l.yielded l.hands.items l.states.items;
  hands : MOST_LANES + MOST_GUESTS ≤ vec_capacity l.hands;
  states : length l.fn.lanes.items ≤ vec_capacity l.states;
  all : l.yielded ++ into_iter_items l.lane-iterator ≡ into_iter_items l.initial.lane-iterator;
  rest : into_iter_len l.lane-iterator ≡ length (into_iter_items l.lane-iterator);
}
