use Rattle.std.proofs.Common.{length}
use Rattle.traceviews.proofs.TraceTexts.{AreReadUpTo}
use Rattle.traceviews.proofs.reader.check_lines.Given as goal

abbrev pub invariant-loop-rest : goal.invariant-loop-rest
invariant-loop-rest l = AreReadUpTo l.before l.rest l.text

abbrev pub decreases-loop-rest : goal.decreases-loop-rest
decreases-loop-rest l = length l.rest
