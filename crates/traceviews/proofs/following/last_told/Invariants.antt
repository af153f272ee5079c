use Rattle.std.proofs.Common.{◌≡◌, drop}
use Rattle.traceviews.specs.WordSteps.{last_told}
use Rattle.traceviews.proofs.following.last_told.Given as goal

abbrev pub invariant-loop-line : goal.invariant-loop-line
invariant-loop-line l = last_told (drop l.line-index l.lines) ≡ last_told l.lines
