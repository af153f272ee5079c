-- The lanes that are given back are the pool's.
use Rattle.std.proofs.Common.{All, sym, ap, ◌∙◌, subst}
use Rattle.shardpool.specs.Tokens.{PoolOf, LaneOf}
use Rattle.shardpool.specs.Lanes.{Owns}
use Rattle.poolhandle.specs.declared.shared.Shared.{Shared}
use Rattle.poolhandle.proofs.Owned.{first-lanes, owned-next}
use Rattle.poolhandle.proofs.opening.handles_of.Goals as goal

pub close_lanes-requires-in-Err-clause-owned : goal.close_lanes-requires-in-Err-clause-owned
close_lanes-requires-in-Err-clause-owned c =
    subst (λ (pool : PoolOf). All (λ (lane : LaneOf). Owns pool lane) c.args.lanes.items) (sym (ap (λ (shared : Shared). shared.pool) c.in-Err.ensures.value_returned))
    (owned-next 0 c.args.lanes.items (first-lanes c.requires.lanes))

pub close_lanes-requires-in-Err-clause-alone : goal.close_lanes-requires-in-Err-clause-alone
close_lanes-requires-in-Err-clause-alone c = ap (λ (shared : Shared). shared.pool.shape.guests) c.in-Err.ensures.value_returned ∙ c.requires.alone

pub close_lanes-requires-clause-owned : goal.close_lanes-requires-clause-owned
close_lanes-requires-clause-owned c = owned-next 0 c.args.lanes.items (first-lanes c.requires.lanes)
