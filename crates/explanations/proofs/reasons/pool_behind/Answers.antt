use Rattle.std.proofs.Common.{◌∙◌}
use Rattle.seqpool.specs.Rows.{pool_in}
use Rattle.seqpool.proofs.HistoryLaws.{pool-more}
use Rattle.explanations.proofs.Legals.{legal-memory}
use Rattle.explanations.proofs.reasons.pool_behind.Goals as goal

pub memory_of-requires : goal.memory_of-requires
memory_of-requires c =
    legal-memory c.args.shape c.loop-act.pool.shape (pool_in c.loop-act.pool) c.args.acts.now c.loop-act.act-index c.act-item.result c.in-Err.fault c.requires.narrow.3 c.requires.legal c.loop-act-test.true c.act-item.is
    c.loop-act.invariant.shape c.loop-act.invariant.pool (c.in-Err.ensures {u = tt}).refused

pub loop-act-preserved : goal.loop-act-preserved
loop-act-preserved c =
    let done = c.in_default-apply.ensures {u = tt} in
    record {
      shape = done.shape ∙ c.loop-act.invariant.shape;
      pool = pool-more c.args.shape c.loop-act.pool.shape (pool_in c.loop-act.pool) (pool_in c.apply.new.self) c.args.acts.now c.loop-act.act-index c.act-item.result c.loop-act-test.true c.act-item.is
          c.loop-act.invariant.shape c.loop-act.invariant.pool done.pool;
    }
