-- No lane before this one has the number.
use Rattle.std.specs.Prelude.{◌≡◌, ◌≢◌, ℕ, ◌<◌, Some, slice_get}
use Rattle.shardpool.specs.Tokens.{LaneOf}
use Rattle.guards.proofs.closes.has_lane.Given as goal

abbrev pub invariant-loop-lane : goal.invariant-loop-lane
invariant-loop-lane g l = (index : ℕ) (lane : LaneOf) → index < l.lane-index → slice_get l.lanes index ≡ Some lane → lane.number ≢ l.number
