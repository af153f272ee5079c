use Rattle.std.proofs.Common.{length}
use Rattle.explanations.proofs.json_fault.halt_of.Given as goal

abbrev pub decreases-loop-token : goal.decreases-loop-token
decreases-loop-token l = length l.reader
