-- The guests before this one are in the row.
use Rattle.std.specs.Prelude.{ℕ, ◌+◌, ◌<◌, ◌≤◌}
use Rattle.guards.specs.Rows.{HasGuest}
use Rattle.guards.proofs.closes.are_all_guests.Given as goal

abbrev pub invariant-loop-index : goal.invariant-loop-index
invariant-loop-index g l = (number : ℕ) → l.shape.lanes ≤ number → number < l.shape.lanes + l.index → HasGuest l.guests number
