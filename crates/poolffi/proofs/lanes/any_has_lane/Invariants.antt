-- The slots are as they were, and those before this one have no lane.
use Rattle.std.proofs.Common.{◌≡◌}
use Rattle.poolffi.proofs.Emptiness.{NoneBelow}
use Rattle.poolffi.proofs.lanes.any_has_lane.Given as goal

abbrev pub invariant-loop-index : goal.invariant-loop-index
invariant-loop-index l = (l.slots ≡ l.fn.slots) × NoneBelow l.index l.slots
