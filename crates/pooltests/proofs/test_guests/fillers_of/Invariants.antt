-- Each lane that is left is the pool's.
use Rattle.std.specs.Vec.Iter.{into_iter_items}
use Rattle.guards.specs.Rows.{AreLanesOf}
use Rattle.pooltests.proofs.test_guests.fillers_of.Given as goal

abbrev pub invariant-loop-lane : goal.invariant-loop-lane
invariant-loop-lane g l = AreLanesOf g.N.PoolName.pool (into_iter_items l.lane-iterator)
