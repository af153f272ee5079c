use Rattle.std.proofs.Common.{arith}
use Rattle.seqpool.specs.Rows.{lost_spot}
use Rattle.seqpool.proofs.Acts.{change-row}
use Rattle.seqpool.proofs.pool.SeqPool.lose.Goals as goal

pub returns-clause-pool : goal.returns-clause-pool
returns-clause-pool c =
    change-row c.args.self.now.shape c.args.self.now.rows.items c.args.place c.position-position.result c.index_mut.result.now c.lose.new.self (lost_spot c.args.lane) c.args.self.now.checked c.requires.place c.position-position.ensures.position (omega arith) c.index_mut.ensures.value c.lose.ensures
