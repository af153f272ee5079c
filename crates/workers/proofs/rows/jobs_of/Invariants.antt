-- The first lanes and scripts are jobs, and as many of both are left.
use Rattle.std.specs.Prelude.{◌≡◌, ◌≤◌, ◌+◌, length, map, ◌++◌, vec_items, vec_len}
use Rattle.std.specs.Vec.{vec_capacity}
use Rattle.std.specs.Vec.Iter.{into_iter_items, into_iter_len}
use Rattle.workers.proofs.rows.jobs_of.Given as goal

abbrev pub invariant-loop-lane : goal.invariant-loop-lane
invariant-loop-lane l =
    (vec_items l.fn.lanes ≡ map (λ job. job.lane) (vec_items l.jobs) ++ into_iter_items l.lane-iterator)
    × (vec_items l.fn.scripts ≡ map (λ job. job.script) (vec_items l.jobs) ++ into_iter_items l.scripts)
    × (into_iter_len l.lane-iterator ≡ length (into_iter_items l.lane-iterator))
    × (into_iter_len l.scripts ≡ length (into_iter_items l.scripts))
    × (into_iter_len l.scripts ≡ into_iter_len l.lane-iterator)
    × (vec_len l.jobs + into_iter_len l.lane-iterator ≤ vec_capacity l.jobs)
