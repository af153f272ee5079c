-- The first lanes and reports are taken apart.
use Rattle.std.specs.Prelude.{◌≡◌, ◌≤◌, ◌+◌, length, map, ◌++◌, vec_items, vec_len}
use Rattle.std.specs.Vec.{vec_capacity}
use Rattle.std.specs.Vec.Iter.{into_iter_items, into_iter_len}
use Rattle.workers.proofs.rows.parts_of.Given as goal

abbrev pub invariant-loop-done : goal.invariant-loop-done
invariant-loop-done l =
    let rest = into_iter_items l.done-iterator in
    (map (λ done. done.lane) (vec_items l.fn.dones) ≡ vec_items l.lanes ++ map (λ done. done.lane) rest)
    × (map (λ done. done.report) (vec_items l.fn.dones) ≡ vec_items l.reports ++ map (λ done. done.report) rest)
    × (into_iter_len l.done-iterator ≡ length rest)
    × (vec_len l.lanes + into_iter_len l.done-iterator ≤ vec_capacity l.lanes)
    × (vec_len l.reports + into_iter_len l.done-iterator ≤ vec_capacity l.reports)
