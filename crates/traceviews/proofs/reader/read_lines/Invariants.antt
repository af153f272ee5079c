use Rattle.std.proofs.Common.{◌≤◌, length}
use Rattle.traceviews.proofs.TraceTexts.{IsReadUpTo}
use Rattle.traceviews.proofs.reader.read_lines.Given as goal

abbrev pub invariant-loop-lines : goal.invariant-loop-lines
invariant-loop-lines l = IsReadUpTo l.lines.items l.rest l.text × (length l.lines.items ≤ l.most)

abbrev pub decreases-loop-lines : goal.decreases-loop-lines
decreases-loop-lines l = length l.rest
