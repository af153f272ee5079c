use Rattle.std.proofs.Common.{◌≡◌, ◌≤◌, take, count_by}
use Rattle.traceviews.specs.Counts.{is_step_of}
use Rattle.traceviews.proofs.counts.steps_of.Given as goal

abbrev pub invariant-loop-line : goal.invariant-loop-line
invariant-loop-line l = (l.count ≡ count_by (is_step_of l.lane l.name) (take l.line-index l.lines)) × (l.count ≤ l.line-index)
