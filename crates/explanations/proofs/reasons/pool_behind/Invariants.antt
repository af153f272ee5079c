use Rattle.std.proofs.Common.{◌≡◌, take}
use Rattle.seqpool.specs.Pool.{pool_after}
use Rattle.seqpool.specs.Rows.{pool_in}
use Rattle.explanations.proofs.reasons.pool_behind.Given as goal

abbrev pub invariant-loop-act : goal.invariant-loop-act
invariant-loop-act l = record {
  shape : l.pool.shape ≡ l.fn.shape;
  pool : pool_in l.pool ≡ pool_after l.fn.shape (take l.act-index l.acts);
}
