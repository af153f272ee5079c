use Rattle.std.proofs.Common.{◌≤◌}
use Rattle.seqpool.specs.Rows.{pool_in}
use Rattle.seqpool.specs.Checker.{AreMany, is_in}
use Rattle.seqpool.proofs.GroupCounts.{before}
use Rattle.seqpool.proofs.pool.SeqPool.count.Given as goal

abbrev pub invariant-loop-position : goal.invariant-loop-position
invariant-loop-position l = record {
  few : l.count ≤ l.position;
  many : AreMany (before l.self.shape (λ place. is_in l.group (pool_in l.self place).phase) l.position) l.count;
}
