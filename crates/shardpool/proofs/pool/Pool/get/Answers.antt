-- A get is one that answers where the object stands.
use Rattle.std.proofs.Common.{ℕ, Some, sym, subst}
use Rattle.shardpool.specs.AfterCalls.{AfterGet}
use Rattle.shardpool.proofs.pool.Pool.get.Goals as goal

pub returns-in_err-start : goal.returns-in_err-start
returns-in_err-start g c = rw c.from_residual.ensures c.in_err-start.ensures.got

pub returns : goal.returns
returns g c =
    subst (λ (key : ℕ). AfterGet g.row.T.Denot c.args.self.now c.args.key c.args.lane.now c.get_at.new.lane (Some (record { key = key }))) (sym c.to.ensures)
    c.in_ok-start.ensures.got
