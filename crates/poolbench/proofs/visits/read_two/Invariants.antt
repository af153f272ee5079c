-- In each round it is a guest of the pool.
use Rattle.shardpool.specs.Lanes.{Owns, OwnsGuest}
use Rattle.poolbench.proofs.visits.read_two.Given as goal

abbrev pub invariant-loop-key : goal.invariant-loop-key
invariant-loop-key l = Owns l.pool l.lane

abbrev pub invariant-loop-round : goal.invariant-loop-round
invariant-loop-round l = OwnsGuest l.pool l.guest
