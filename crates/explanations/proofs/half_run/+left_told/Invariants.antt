use Rattle.std.proofs.Common.{length}
use Rattle.explanations.proofs.half_run.+left_told.Given as goal

abbrev pub decreases-left_told : goal.decreases-left_told
decreases-left_told l = length l.counts.now
