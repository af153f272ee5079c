use Rattle.traceviews.proofs.CountLemmas.{IsLongestSoFar}
use Rattle.traceviews.proofs.counts.longest_call.Given as goal

abbrev pub invariant-loop-line : goal.invariant-loop-line
invariant-loop-line l = IsLongestSoFar l.lane l.steps l.most l.line-index l.lines
