-- Each lane of the row is the pool's, and so is each that is left.
use Rattle.std.proofs.Common.{sym, subst, List}
use Rattle.std.specs.Vec.Iter.{into_iter_items}
use Rattle.shardpool.specs.Tokens.{LaneOf}
use Rattle.guards.specs.Rows.{AreLanesOf}
use Rattle.pooltests.proofs.PoolRows.{lanes_head, lanes_tail}
use Rattle.pooltests.proofs.test_guests.fillers_of.Goals as goal

pub loop-lane-init : goal.loop-lane-init
loop-lane-init g c =
    subst (λ (lanes : List LaneOf). AreLanesOf g.N.PoolName.pool lanes) (sym c.into_iter-lane-iterator.ensures.into_iter_gives.0) c.requires.lanes

pub invariant_of-push : goal.invariant_of-push
invariant_of-push g c = record {
  pool_is = c.requires.pool;
  owns = lanes_head c.in-Some.lane (into_iter_items c.next.new.self)
      (subst (λ (lanes : List LaneOf). AreLanesOf g.N.PoolName.pool lanes) c.in-Some.ensures.steps.0 c.loop-lane.invariant);
}

pub loop-lane-preserved : goal.loop-lane-preserved
loop-lane-preserved g c =
    lanes_tail c.in-Some.lane (into_iter_items c.next.new.self)
    (subst (λ (lanes : List LaneOf). AreLanesOf g.N.PoolName.pool lanes) c.in-Some.ensures.steps.0 c.loop-lane.invariant)
