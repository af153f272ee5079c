use Rattle.std.proofs.Common.{◌-◌, length}
use Rattle.std.specs.Prelude.{option_copied}
use Rattle.traces.specs.Lawful.{World}
use Rattle.coresteps.specs.Kept.{IsDraft, IsLaneAt}
use Rattle.coresteps.proofs.CreateLemmas.{HasReplied}
use Rattle.coresteps.proofs.shared.Shared.work.Given as goal

abbrev pub invariant-loop-replies : goal.invariant-loop-replies
invariant-loop-replies l = (w : World) → IsDraft l.self w (option_copied l.made)
    → IsLaneAt l.self.shape w.history l.number l.lane l.fn.progress (w.books l.number)
    → HasReplied l.self w (option_copied l.made) l.number l.lane l.fn.progress l.replies l.progress

abbrev pub decreases-loop-replies : goal.decreases-loop-replies
decreases-loop-replies l = length l.lane.script - l.progress.done
