-- The lanes so far, and those that are left, are the pool's.
use Rattle.std.proofs.Common.{All}
use Rattle.std.specs.Vec.Iter.{into_iter_items}
use Rattle.shardpool.specs.Tokens.{LaneOf}
use Rattle.shardpool.specs.Lanes.{Owns}
use Rattle.lanestore.proofs.opening.all_lanes.Given as goal

abbrev pub invariant-loop-lane : goal.invariant-loop-lane
invariant-loop-lane g l = record {
  left : All (λ (lane : LaneOf). Owns l.fn.pool lane) (into_iter_items l.lane-iterator);
  lanes : All (λ (lane : LaneOf). Owns l.fn.pool lane) l.lanes.items;
}
