-- What came back is the pool's.
use Rattle.guards.specs.Rows.{AreLanesOf, AreGuestsOf}
use Rattle.pooltests.proofs.test_guests.rows_of.Given as goal

abbrev pub invariant-loop : goal.invariant-loop
invariant-loop g l = AreLanesOf g.N.PoolName.pool l.lanes.items × AreGuestsOf g.N.PoolName.pool l.guests.items
