-- Each round of the loop makes a job of the next lane and the next script.
use Rattle.std.proofs.Common.{arith, ap, length}
use Rattle.std.specs.Prelude.{vec_items}
use Rattle.std.specs.Vec.Iter.{into_iter_items}
use Rattle.workers.specs.declared.jobs.Job.{Job}
use Rattle.workers.proofs.Parting.{all-gone, next-made}
use Rattle.workers.proofs.rows.jobs_of.Goals as goal

pub unreachable-requires : goal.unreachable-requires
unreachable-requires c =
    let none = c.in_default-next.ensures.variant.1 (omega (arith, c.in-Some.ensures.steps.1, c.loop-lane.invariant.4)) in absurd (cc none)

pub push_reserved-requires : goal.push_reserved-requires
push_reserved-requires c = omega (arith, c.in-Some.ensures.steps.1, c.loop-lane.invariant.5)

pub loop-lane-preserved : goal.loop-lane-preserved
loop-lane-preserved c =
    let inv = c.loop-lane.invariant in
    let lane = c.in-Some.ensures.steps in
    let script = c.in-Some-next.ensures in
    let pushed = c.push_reserved.ensures in
    let before = vec_items c.loop-lane.jobs in
    let now = vec_items c.push_reserved.new.self in
    let job : Job = record { lane = c.in-Some.lane; script = c.in-Some-next.script } in
    let lanes = ap length lane.0 in
    let scripts = ap length script.items in (
      next-made (λ (j : Job). j.lane) (vec_items c.args.lanes) before now (into_iter_items c.loop-lane.lane-iterator) (into_iter_items c.next.new.self) job
          inv.0 lane.0 pushed.items,
      next-made (λ (j : Job). j.script) (vec_items c.args.scripts) before now (into_iter_items c.loop-lane.scripts) (into_iter_items c.next-in-loop-lane.new.self) job
          inv.1 script.items pushed.items,
      omega (arith, lanes, lane.1, inv.2),
      omega (arith, scripts, script.len, inv.3),
      omega (arith, lane.1, script.len, inv.4),
      omega (arith, pushed.len, pushed.capacity, lane.1, inv.5),
    )

pub returns : goal.returns
returns c =
    let inv = c.loop-lane.invariant in
    let none = c.in-None.ensures.steps.0 in record {
      lanes = all-gone _ _ _ inv.0 (omega (arith, none, inv.2));
      scripts = all-gone _ _ _ inv.1 (omega (arith, none, inv.3, inv.4));
    }
