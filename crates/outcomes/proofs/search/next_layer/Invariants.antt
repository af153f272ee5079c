use Rattle.std.proofs.Common.{ℕ, drop}
use Rattle.outcomes.specs.Search.{AreReached, AreShown, AreVisited}
use Rattle.outcomes.proofs.search.next_layer.Given as goal

-- the states so far are visited
abbrev pub invariant-loop-from : goal.invariant-loop-from
invariant-loop-from l = (size : ℕ) → AreReached l.shape l.scripts size l.layer → AreShown l.shape l.scripts l.fn.table.items
    → AreVisited l.shape l.scripts size l.layer l.fn.table.items (drop l.from-index l.layer) l.next.items l.table.items
