-- The lanes before this number are in the row.
use Rattle.std.specs.Prelude.{ℕ, ◌<◌}
use Rattle.guards.specs.Rows.{HasLane}
use Rattle.guards.proofs.closes.are_all_lanes.Given as goal

abbrev pub invariant-loop-number : goal.invariant-loop-number
invariant-loop-number g l = (low : ℕ) → low < l.number → HasLane l.lanes low
