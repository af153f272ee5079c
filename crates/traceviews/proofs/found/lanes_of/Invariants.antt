use Rattle.std.proofs.Common.{◌≡◌, ◌||◌, ℕ, drop}
use Rattle.std.specs.BTreeSet.{contains}
use Rattle.std.specs.Ordering.{nat_cmp}
use Rattle.traceviews.specs.Summaries.{has_lane}
use Rattle.traceviews.proofs.found.lanes_of.Given as goal

abbrev pub invariant-loop-line : goal.invariant-loop-line
invariant-loop-line l = (lane : ℕ) → (contains nat_cmp l.lanes lane || has_lane lane (drop l.line-index l.lines)) ≡ has_lane lane l.lines
