-- In each round it is the same lane.
use Rattle.shardpool.specs.Lanes.{Owns, SameLane}
use Rattle.poolbench.proofs.openings.put_many.Given as goal

abbrev pub invariant-loop : goal.invariant-loop
invariant-loop l = Owns l.pool l.lane × SameLane l.fn.lane l.lane
