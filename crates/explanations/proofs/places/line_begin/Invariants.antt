use Rattle.std.proofs.Common.{length}
use Rattle.explanations.proofs.places.line_begin.Given as goal

abbrev pub decreases-loop-token : goal.decreases-loop-token
decreases-loop-token l = length l.reader
