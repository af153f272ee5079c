use Rattle.std.proofs.Common.{arith}
use Rattle.seqpool.proofs.Rows.{put-row}
use Rattle.seqpool.proofs.pool.SeqPool.put.Goals as goal

pub returns-clause-pool : goal.returns-clause-pool
returns-clause-pool c =
    put-row c.args.self.now.shape c.args.self.now.rows.items c.args.place c.position-position.result _ c.args.self.now.checked c.requires c.position-position.ensures.position (omega arith)
