-- What lies in the places that are left is tagged with the pool; the lanes so far are its own, and those of the row are among them.
use Rattle.std.proofs.Common.{◌≡◌, All, Contains}
use Rattle.std.specs.Vec.Iter.{into_iter_items}
use Rattle.shardpool.specs.Tokens.{PoolOf, LaneOf}
use Rattle.shardpool.specs.Lanes.{Owns}
use Rattle.lanestore.proofs.closing.taken_out.Given as goal

abbrev pub invariant-loop-place : goal.invariant-loop-place
invariant-loop-place g l = record {
  tags : All (λ (tag : PoolOf). tag ≡ l.fn.pool) (into_iter_items l.place-iterator);
  owned : All (λ (other : LaneOf). Owns l.fn.pool other) l.lanes.items;
  kept : (lane : LaneOf) → Contains l.fn.row.items lane → Contains l.lanes.items lane;
}
