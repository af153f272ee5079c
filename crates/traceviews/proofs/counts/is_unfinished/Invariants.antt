use Rattle.std.proofs.Common.{◌≡◌, drop}
use Rattle.traceviews.specs.Counts.{unfinished_from, is_unfinished}
use Rattle.traceviews.proofs.counts.is_unfinished.Given as goal

abbrev pub invariant-loop-line : goal.invariant-loop-line
invariant-loop-line l = unfinished_from l.unfinished l.lane (drop l.line-index l.lines) ≡ is_unfinished l.lane l.lines
