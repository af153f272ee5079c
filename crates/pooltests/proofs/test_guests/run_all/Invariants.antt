-- The guests that are left to deal are the pool's.
use Rattle.guards.specs.Rows.{IsDealerOf}
use Rattle.pooltests.proofs.test_guests.run_all.Given as goal

abbrev pub invariant-loop : goal.invariant-loop
invariant-loop g l = IsDealerOf g.N.PoolName.pool l.undealt
