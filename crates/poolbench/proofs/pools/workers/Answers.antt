use Rattle.std.proofs.Common.{sym, subst, List}
use Rattle.std.specs.Vec.Iter.{into_iter_items}
use Rattle.shardpool.specs.Tokens.{LaneOf}
use Rattle.poolbench.proofs.Fresh.{AreFresh, fresh-first, fresh-head, fresh-tail}
use Rattle.poolbench.proofs.pools.workers.Goals as goal

pub loop-lane-init : goal.loop-lane-init
loop-lane-init c =
    subst (λ (lanes : List LaneOf). AreFresh c.args.pool.now lanes) (sym c.into_iter-lane-iterator.ensures.into_iter_gives.0) (fresh-first c.requires)

pub invariant_of-push : goal.invariant_of-push
invariant_of-push c =
    let fresh = fresh-head c.in-Some.lane (into_iter_items c.next.new.self) (subst (λ (lanes : List LaneOf). AreFresh c.args.pool.now lanes) c.in-Some.ensures.steps.0 c.loop-lane.invariant) in
    record { table = fresh.0.0; directory = fresh.0.2; shape = fresh.0.1; unburdened = fresh.1 }

pub loop-lane-preserved : goal.loop-lane-preserved
loop-lane-preserved c =
    fresh-tail c.in-Some.lane (into_iter_items c.next.new.self) (subst (λ (lanes : List LaneOf). AreFresh c.args.pool.now lanes) c.in-Some.ensures.steps.0 c.loop-lane.invariant)
