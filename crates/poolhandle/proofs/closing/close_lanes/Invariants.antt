use Rattle.std.proofs.Common.{◌≡◌, ◌<◌, ℕ, Some, slice_get}
use Rattle.shardpool.specs.Tokens.{LaneOf}
use Rattle.poolhandle.proofs.closing.close_lanes.Given as goal

-- the lanes before this one have their numbers
abbrev pub invariant-loop-index : goal.invariant-loop-index
invariant-loop-index g l = (i : ℕ) (lane : LaneOf) → i < l.index → slice_get l.lanes.items i ≡ Some lane → lane.number ≡ i
