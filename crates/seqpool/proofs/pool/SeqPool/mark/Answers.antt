use Rattle.std.proofs.Common.{arith}
use Rattle.seqpool.specs.Rows.{marked_spot}
use Rattle.seqpool.proofs.Acts.{change-row}
use Rattle.seqpool.proofs.pool.SeqPool.mark.Goals as goal

pub returns-clause-pool : goal.returns-clause-pool
returns-clause-pool c =
    change-row c.args.self.now.shape c.args.self.now.rows.items c.args.place c.position-position.result c.index_mut.result.now c.mark.new.self marked_spot c.args.self.now.checked c.requires c.position-position.ensures.position (omega arith) c.index_mut.ensures.value c.mark.ensures
