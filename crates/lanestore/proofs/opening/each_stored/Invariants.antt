-- The lanes that are left are new ones of the pool, and each place is tagged with it.
use Rattle.std.proofs.Common.{◌≡◌, [], All, length}
use Rattle.std.specs.Vec.Iter.{into_iter_items}
use Rattle.shardpool.specs.Tokens.{PoolOf, LaneOf}
use Rattle.lanestore.specs.Visits.{IsNew}
use Rattle.lanestore.proofs.opening.each_stored.Given as goal

abbrev pub invariant-loop-lane : goal.invariant-loop-lane
invariant-loop-lane g l = record {
  left : All (λ (lane : LaneOf). IsNew l.pool lane) (into_iter_items l.rest);
  tags : All (λ (tag : PoolOf). tag ≡ l.pool) l.places.items;
  back : l.back.items ≡ [];
  same : l.pool ≡ l.fn.pool;
}

abbrev pub decreases-loop-lane : goal.decreases-loop-lane
decreases-loop-lane g l = length (into_iter_items l.rest)
