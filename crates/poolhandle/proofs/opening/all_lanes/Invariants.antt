-- The lanes so far, and those that are left, are the pool's.
use Rattle.std.proofs.Common.{◌≡◌, ◌+◌, ◌≤◌, length, All}
use Rattle.std.specs.Vec.{vec_capacity}
use Rattle.std.specs.Vec.Iter.{into_iter_items}
use Rattle.std.specs.Arc.{arc_value}
use Rattle.shardpool.specs.Tokens.{LaneOf}
use Rattle.shardpool.specs.Lanes.{Owns}
use Rattle.poolhandle.proofs.opening.all_lanes.Given as goal

abbrev pub invariant-loop-lane : goal.invariant-loop-lane
invariant-loop-lane l = record {
  left : All (λ (lane : LaneOf). Owns (arc_value l.shared).pool lane) (into_iter_items l.lane-iterator);
  lanes : All (λ (lane : LaneOf). Owns (arc_value l.shared).pool lane) l.lanes.items;
  all : length l.lanes.items + length (into_iter_items l.lane-iterator) ≡ length l.fn.handles.items + 1 + length (into_iter_items l.fn.rest);
  room : length l.lanes.items + length (into_iter_items l.lane-iterator) ≤ vec_capacity l.lanes;
}
