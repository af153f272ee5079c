-- In each round they are a lane and a guest of the pool.
use Rattle.shardpool.specs.Lanes.{Owns, OwnsGuest}
use Rattle.poolbench.proofs.visits.cycle_two.Given as goal

abbrev pub invariant-loop : goal.invariant-loop
invariant-loop l = Owns l.pool l.lane × OwnsGuest l.pool l.guest
