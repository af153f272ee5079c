-- The lane is the pool's.
use Rattle.shardpool.specs.Lanes.{Owns}
use Rattle.pooltests.proofs.test_claimed.publish_all.Given as goal

abbrev pub invariant-loop-number : goal.invariant-loop-number
invariant-loop-number g l = Owns l.pool l.lane
