-- What came back is of this pool.
use Rattle.std.proofs.Common.{sym, subst}
use Rattle.shardpool.specs.Tokens.{PoolOf}
use Rattle.guards.specs.Rows.{AreLanesOf, AreGuestsOf}
use Rattle.pooltests.proofs.test_guests.census_of.Goals as goal

pub close_rows-requires-clause-lanes : goal.close_rows-requires-clause-lanes
close_rows-requires-clause-lanes g c = subst (λ (pool : PoolOf). AreLanesOf pool c.in_ok-lanes.lanes.items) (sym c.requires.pool) c.in_ok-lanes.ensures.lanes

pub close_rows-requires-clause-dealt : goal.close_rows-requires-clause-dealt
close_rows-requires-clause-dealt g c = subst (λ (pool : PoolOf). AreGuestsOf pool c.in_ok-lanes.guests.items) (sym c.requires.pool) c.in_ok-lanes.ensures.guests
