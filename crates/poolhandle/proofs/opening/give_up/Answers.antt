-- The lanes are the pool's.
use Rattle.std.proofs.Common.{All, sym, subst}
use Rattle.shardpool.specs.Tokens.{LaneOf}
use Rattle.shardpool.specs.Lanes.{Owns}
use Rattle.poolhandle.specs.declared.shared.Shared.{Shared}
use Rattle.poolhandle.proofs.opening.give_up.Goals as goal

pub close_lanes-requires-clause-owned : goal.close_lanes-requires-clause-owned
close_lanes-requires-clause-owned c =
    subst (λ (shared : Shared). All (λ (lane : LaneOf). Owns shared.pool lane) c.all_lanes-lanes.result.items) (sym c.in-Some.ensures) c.all_lanes-lanes.ensures.owned
