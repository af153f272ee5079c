use Rattle.std.proofs.Common.{take}
use Rattle.seqpool.specs.Pool.{NoRepeats, AllHome}
use Rattle.seqpool.specs.Rows.{pool_in}
use Rattle.seqpool.proofs.pool.SeqPool.are_home_for.Given as goal

abbrev pub invariant-loop-i : goal.invariant-loop-i
invariant-loop-i l = record { once : NoRepeats (take l.i l.places); here : AllHome l.self.shape (pool_in l.self) l.lane (take l.i l.places) }
