use Rattle.std.proofs.Common.{◌≡◌, take}
use Rattle.seqpool.specs.declared.act.Act.TheVariants.{Collect}
use Rattle.seqpool.specs.Pool.{after}
use Rattle.seqpool.specs.Rows.{pool_in}
use Rattle.seqpool.proofs.pool.SeqPool.collect.Given as goal

abbrev pub invariant-loop-place : goal.invariant-loop-place
invariant-loop-place l = record {
  shape : l.self.shape ≡ l.fn.self.shape;
  pool : pool_in l.self ≡ after l.fn.self.shape (Collect l.lane (take l.place-index l.places)) (pool_in l.fn.self);
}
