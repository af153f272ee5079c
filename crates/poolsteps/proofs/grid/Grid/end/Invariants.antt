-- The hand that takes in the others knows what those know that it took in.
use Rattle.std.proofs.Common.{◌≡◌, length}
use Rattle.std.specs.Vec.Iter.{into_iter_items, into_iter_len}
use Rattle.poolsteps.proofs.Ending.{AreGathered}
use Rattle.poolsteps.proofs.grid.Grid.end.Given as goal

abbrev pub invariant-loop-hand : goal.invariant-loop-hand
invariant-loop-hand g l = AreGathered l.self l.fn.hands.items l.all (into_iter_items l.hand-iterator)
    × (into_iter_len l.hand-iterator ≡ length (into_iter_items l.hand-iterator))
