use Rattle.std.proofs.Common.{◌≡◌, ℕ, ◌<◌, Some, length}
use Rattle.std.specs.Prelude.{slice_get}
use Rattle.traces.specs.TurnLaws.{turns_of, all_replies}
use Rattle.outcomes.proofs.lanes.all_lanes.Given as goal

abbrev pub invariant-loop-lane : goal.invariant-loop-lane
invariant-loop-lane l = record {
  count : length l.replies.items ≡ l.lane;
  each : (k : ℕ) → k < l.lane → slice_get l.replies.items k ≡ Some (all_replies (turns_of k l.turns));
}
