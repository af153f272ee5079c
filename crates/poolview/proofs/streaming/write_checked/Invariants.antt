use Rattle.std.proofs.Common.{length}
use Rattle.poolview.proofs.WordLemmas.{IsWritten}
use Rattle.poolview.proofs.streaming.write_checked.Given as goal

abbrev pub invariant-loop-rest : goal.invariant-loop-rest
invariant-loop-rest g l = IsWritten g.O.Write.contents l.keys l.rest l.bytes l.fn.out l.out

abbrev pub decreases-loop-rest : goal.decreases-loop-rest
decreases-loop-rest g l = length l.rest
