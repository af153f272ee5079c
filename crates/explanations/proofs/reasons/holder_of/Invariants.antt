use Rattle.std.proofs.Common.{◌≡◌, ◌<◌, ℕ}
use Rattle.seqpool.specs.Rows.{pool_in}
use Rattle.seqpool.specs.declared.act.Act.TheVariants.{Release}
use Rattle.explanations.specs.Reasons.{IsRefused}
use Rattle.explanations.proofs.reasons.holder_of.Given as goal

-- no release was allowed so far, so the pool is as before
abbrev pub invariant-loop-lane : goal.invariant-loop-lane
invariant-loop-lane l = record {
  same : l.pool ≡ l.fn.pool;
  refused : (lane : ℕ) → lane < l.lane → IsRefused l.fn.pool.shape (pool_in l.fn.pool) (Release lane l.key);
}
