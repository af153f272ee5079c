-- Each lane that is left has no reference.
use Rattle.std.specs.Vec.Iter.{into_iter_items}
use Rattle.poolbench.proofs.Fresh.{AreFresh}
use Rattle.poolbench.proofs.pools.workers.Given as goal

abbrev pub invariant-loop-lane : goal.invariant-loop-lane
invariant-loop-lane l = AreFresh l.pool (into_iter_items l.lane-iterator)
