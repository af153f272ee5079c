use Rattle.std.proofs.Common.{◌≡◌, take}
use Rattle.traces.specs.Lawful.{first_world}
use Rattle.coresteps.specs.Kept.{IsRun}
use Rattle.poolprogram.proofs.replay.run_told.Given as goal

abbrev pub invariant-loop-lane : goal.invariant-loop-lane
invariant-loop-lane g l =
    IsRun l.fn.shape (first_world l.fn.scripts.items) (take l.lane-index l.schedule) l.trace l.core × (l.core.shared.shape ≡ l.fn.shape)
