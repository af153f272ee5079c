-- The first jobs are answered, and what was begun of the others holds.
use Rattle.std.specs.Prelude.{◌≡◌, ◌≤◌, ◌+◌, List, length, ◌++◌, vec_items, vec_len}
use Rattle.std.specs.Vec.{vec_capacity}
use Rattle.std.specs.Vec.Iter.{into_iter_items, into_iter_len}
use Rattle.workers.specs.declared.begun.Begun.{Begun}
use Rattle.workers.specs.Begins.{Pairs, AllHold, IsFinished}
use Rattle.workers.proofs.threads.finish_all.Given as goal

abbrev pub invariant-loop-one : goal.invariant-loop-one
invariant-loop-one g l =
    ((before : List (Begun _)) × (vec_items l.fn.begun ≡ before ++ into_iter_items l.one-iterator)
    × Pairs (IsFinished g.G.Gate.says) before (vec_items l.dones))
    × AllHold g.G.Gate.says (into_iter_items l.one-iterator)
    × (into_iter_len l.one-iterator ≡ length (into_iter_items l.one-iterator))
    × (vec_len l.dones + into_iter_len l.one-iterator ≤ vec_capacity l.dones)
