use Rattle.std.proofs.Common.{length}
use Rattle.traceviews.proofs.picture.begin_strips.Given as goal

abbrev pub decreases-loop-row : goal.decreases-loop-row
decreases-loop-row l = length l.rest
