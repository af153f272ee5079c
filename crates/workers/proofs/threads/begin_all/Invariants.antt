-- The first jobs are begun, and the others may still be.
use Rattle.std.specs.Prelude.{◌≡◌, ◌≤◌, ◌+◌, List, length, ◌++◌, vec_items, vec_len}
use Rattle.std.specs.Vec.{vec_capacity}
use Rattle.std.specs.Vec.Iter.{into_iter_items, into_iter_len}
use Rattle.workers.specs.declared.jobs.Job.{Job}
use Rattle.workers.specs.Works.{MayBegin}
use Rattle.workers.specs.Begins.{Pairs, IsBegun}
use Rattle.workers.proofs.threads.begin_all.Given as goal

abbrev pub invariant-loop-job : goal.invariant-loop-job
invariant-loop-job g l =
    ((before : List Job) × (vec_items l.fn.jobs ≡ before ++ into_iter_items l.job-iterator)
    × Pairs (IsBegun g.G.Gate.says l.gate) before (vec_items l.begun))
    × MayBegin l.pool (into_iter_items l.job-iterator)
    × (into_iter_len l.job-iterator ≡ length (into_iter_items l.job-iterator))
    × (vec_len l.begun + into_iter_len l.job-iterator ≤ vec_capacity l.begun)
