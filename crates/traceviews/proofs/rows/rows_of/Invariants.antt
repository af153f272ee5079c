use Rattle.std.proofs.Common.{length}
use Rattle.traceviews.proofs.rows.rows_of.Given as goal

abbrev pub decreases-loop-turn : goal.decreases-loop-turn
decreases-loop-turn l = length l.rest
