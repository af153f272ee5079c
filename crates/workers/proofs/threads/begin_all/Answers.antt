-- Each round of the loop begins one job more.
use Rattle.std.proofs.Common.{rules, arith, ap, sym, subst, List, [], ◌∷◌, ◌++◌, length}
use Rattle.std.specs.Prelude.{vec_items}
use Rattle.std.specs.Vec.Iter.{into_iter_items}
use Rattle.workers.specs.declared.jobs.Job.{Job}
use Rattle.workers.specs.Works.{MayBegin}
use Rattle.workers.specs.Begins.{IsBegun}
use Rattle.workers.proofs.Pairs.{pairs-add, next-first, may-first}
use Rattle.workers.proofs.threads.begin_all.Goals as goal

pub loop-job-init : goal.loop-job-init
loop-job-init g c =
    let gives = c.into_iter-job-iterator.ensures.into_iter_gives in
    let none = c.requires.room.0 in (
      ([], sym gives.0, rw none tt),
      subst (λ (jobs : List Job). MayBegin c.args.pool.now jobs) (sym gives.0) c.requires.may,
      search rules,
      search rules,
    )

pub begin-requires-clause-may : goal.begin-requires-clause-may
begin-requires-clause-may g c lifetimes outlives =
    let inv = c.loop-job.invariant in
    let old = into_iter_items c.loop-job.job-iterator in
    let rest = into_iter_items c.next.new.self in
    (may-first c.args.pool.now old rest c.in-Some.job c.in-Some.ensures.steps.0 inv.1).0

pub loop-job-preserved : goal.loop-job-preserved
loop-job-preserved g c =
    let inv = c.loop-job.invariant in
    let step = c.in-Some.ensures.steps in
    let old = into_iter_items c.loop-job.job-iterator in
    let rest = into_iter_items c.next.new.self in
    let pushed = c.push_reserved.ensures in
    let shorter = ap length step.0 in (
      (
        inv.0.0 ++ c.in-Some.job ∷ [],
        next-first (vec_items c.args.jobs) inv.0.0 old rest c.in-Some.job inv.0.1 step.0,
        rw pushed.items (pairs-add (IsBegun g.G.Gate.says c.args.gate.now) inv.0.0 (vec_items c.loop-job.begun) c.in-Some.job c.begin.result inv.0.2 c.begin.ensures.begun),
      ),
      (may-first c.args.pool.now old rest c.in-Some.job step.0 inv.1).1,
      omega (arith, shorter, step.1, inv.2),
      omega (arith, pushed.len, pushed.capacity, step.1, inv.3),
    )
