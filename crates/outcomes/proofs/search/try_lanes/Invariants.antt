use Rattle.std.proofs.Common.{ℕ, ◌+◌}
use Rattle.outcomes.specs.Search.{IsReached, AreReached, AreTried}
use Rattle.outcomes.proofs.search.try_lanes.Given as goal

-- the lanes so far are tried
abbrev pub invariant-loop-lane : goal.invariant-loop-lane
invariant-loop-lane l = (size : ℕ) → IsReached l.shape l.scripts size l.from → AreReached l.shape l.scripts (size + 1) l.fn.next.items
    → AreTried l.shape l.scripts size l.from l.lane l.fn.next.items l.next.items l.ended
