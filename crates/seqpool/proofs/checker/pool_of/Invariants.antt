use Rattle.std.proofs.Common.{◌≡◌, take}
use Rattle.seqpool.specs.Pool.{IsLegal, pool_after}
use Rattle.seqpool.specs.Rows.{pool_in}
use Rattle.seqpool.proofs.checker.pool_of.Given as goal

abbrev pub invariant-loop-index : goal.invariant-loop-index
invariant-loop-index l = record {
  shape : l.pool.shape ≡ l.fn.shape;
  legal : IsLegal l.fn.shape (take l.index l.acts);
  pool : pool_in l.pool ≡ pool_after l.fn.shape (take l.index l.acts);
}
