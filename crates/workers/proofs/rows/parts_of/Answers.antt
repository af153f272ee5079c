-- Each round of the loop takes the next apart.
use Rattle.std.proofs.Common.{◌≡◌, arith, ap, length}
use Rattle.std.specs.Prelude.{vec_items}
use Rattle.std.specs.Vec.Iter.{into_iter_items}
use Rattle.workers.specs.declared.jobs.Done.{Done}
use Rattle.workers.proofs.Parting.{all-parts, next-part}
use Rattle.workers.proofs.rows.parts_of.Goals as goal

pub push_reserved-requires : goal.push_reserved-requires
push_reserved-requires c = omega (arith, c.in-Some.ensures.steps.1, c.loop-done.invariant.3)

pub push_reserved-requires-in-loop-done : goal.push_reserved-requires-in-loop-done
push_reserved-requires-in-loop-done c = omega (arith, c.in-Some.ensures.steps.1, c.loop-done.invariant.4)

pub loop-done-preserved : goal.loop-done-preserved
loop-done-preserved c =
    let inv = c.loop-done.invariant in
    let step = c.in-Some.ensures.steps in
    let lane = c.push_reserved.ensures in
    let report = c.push_reserved-in-loop-done.ensures in
    let rest = into_iter_items c.loop-done.done-iterator in
    let more = into_iter_items c.next.new.self in
    let shorter = ap length step.0 in (
      next-part (λ (d : Done). d.lane) _ (vec_items c.loop-done.lanes) (vec_items c.push_reserved.new.self) rest more c.in-Some.done inv.0 step.0 lane.items,
      next-part (λ (d : Done). d.report) _ (vec_items c.loop-done.reports) (vec_items c.push_reserved-in-loop-done.new.self) rest more c.in-Some.done inv.1 step.0 report.items,
      omega (arith, shorter, step.1, inv.2),
      omega (arith, lane.len, lane.capacity, step.1, inv.3),
      omega (arith, report.len, report.capacity, step.1, inv.4),
    )

pub returns : goal.returns
returns c =
    let inv = c.loop-done.invariant in
    let none : length (into_iter_items c.loop-done.done-iterator) ≡ 0 = omega (arith, c.in-None.ensures.steps.0, inv.2) in record {
      lanes = all-parts (λ (d : Done). d.lane) _ _ (into_iter_items c.loop-done.done-iterator) inv.0 none;
      reports = all-parts (λ (d : Done). d.report) _ _ (into_iter_items c.loop-done.done-iterator) inv.1 none;
    }
