use Rattle.std.proofs.Common.{◌≡◌, ◌∙◌, ap, subst, arith}
use Rattle.std.proofs.lemmas.List.{take_all}
use Rattle.seqpool.specs.declared.fault.CheckFault.TheVariants.{Illegal}
use Rattle.seqpool.specs.Pool.{IsLegal, pool_after}
use Rattle.seqpool.specs.Rows.{pool_in}
use Rattle.seqpool.proofs.HistoryLaws.{legal-more, pool-more, illegal-here}
use Rattle.seqpool.proofs.checker.pool_of.Goals as goal

pub loop-index-preserved : goal.loop-index-preserved
loop-index-preserved c =
    let done = c.in_default.ensures {u = tt} in
    record {
      shape = done.shape ∙ c.loop-index.invariant.shape;
      legal = legal-more c.args.shape c.loop-index.pool.shape (pool_in c.loop-index.pool) c.args.acts.now c.loop-index.index c.index-acts-index.result c.loop-index-test.true c.index-acts-index.is
          c.loop-index.invariant.shape c.loop-index.invariant.pool c.loop-index.invariant.legal done.ok.0 done.ok.1;
      pool = pool-more c.args.shape c.loop-index.pool.shape (pool_in c.loop-index.pool) (pool_in c.apply.new.self) c.args.acts.now c.loop-index.index c.index-acts-index.result c.loop-index-test.true c.index-acts-index.is
          c.loop-index.invariant.shape c.loop-index.invariant.pool done.pool;
    }

pub returns-in-Err-clause-illegal : goal.returns-in-Err-clause-illegal
returns-in-Err-clause-illegal c i fault is =
    let same : c.refusal.result ≡ Illegal i fault = cc is in
    let parts = c.refusal.ensures i fault same in
    illegal-here c.args.shape c.loop-index.pool.shape (pool_in c.loop-index.pool) c.args.acts.now c.loop-index.index i c.index-acts-index.result c.in-Err.fault fault c.loop-index-test.true c.index-acts-index.is
    c.loop-index.invariant.shape c.loop-index.invariant.pool c.loop-index.invariant.legal parts.2 ((c.in-Err.ensures {u = tt}).refused parts.2) parts.0 parts.1

pub returns-clause-legal : goal.returns-clause-legal
returns-clause-legal c = subst (IsLegal c.args.shape) (take_all c.loop-index.index c.args.acts.now (omega arith)) c.loop-index.invariant.legal

pub returns-clause-pool : goal.returns-clause-pool
returns-clause-pool c = c.loop-index.invariant.pool ∙ ap (pool_after c.args.shape) (take_all c.loop-index.index c.args.acts.now (omega arith))
