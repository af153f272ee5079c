-- Each handle goes into the slot of its index.
use Rattle.std.proofs.Common.{rules, ◌≡◌, ◌<◌, List, [], length, sym, ap, ◌∙◌, subst, arith, Box, Global}
use Rattle.std.proofs.lemmas.List.{nil_from_length, length-set}
use Rattle.std.specs.Vec.Iter.{into_iter_items}
use Rattle.poolhandle.specs.declared.handle.Handle.{Handle}
use Rattle.poolffi.proofs.Lowering.{Follow, follow-first, follow-head, follow-tail, one-lowered, all-lowered}
use Rattle.poolffi.proofs.lanes.lower_all.Goals as goal

pub loop-handle-init : goal.loop-handle-init
loop-handle-init c =
    let handles = c.args.handles.items in let gives : into_iter_items c.into_iter-handle-iterator.result ≡ handles = c.into_iter-handle-iterator.ensures.into_iter_gives.0 in
    let long = ap length gives in let asked = c.requires in
    record {
      next = subst (λ (rest : List (Box Handle Global)). Follow 0 rest handles) (sym gives) (follow-first handles);
      done = λ index slot low at. absurd (omega (arith, low));
      all = omega (arith, long, asked);
      rest = search rules;
    }

pub offset_bounds-slots-index : goal.offset_bounds-slots-index
offset_bounds-slots-index c =
    let shorter = ap length c.in-Some.ensures.steps.0 in let all = c.loop-handle.invariant.all in let low : c.loop-handle.index < length c.loop-handle.slots = omega (arith, all, shorter) in
    omega arith

pub bounds-slots-index : goal.bounds-slots-index
bounds-slots-index c = let shorter = ap length c.in-Some.ensures.steps.0 in let all = c.loop-handle.invariant.all in omega (arith, all, shorter)

pub overflow_add-index : goal.overflow_add-index
overflow_add-index c =
    let shorter = ap length c.in-Some.ensures.steps.0 in let all = c.loop-handle.invariant.all in let low : c.loop-handle.index < length c.loop-handle.slots = omega (arith, all, shorter) in
    omega arith

pub loop-handle-preserved : goal.loop-handle-preserved
loop-handle-preserved c =
    let slots = c.loop-handle.slots in let index = c.loop-handle.index in let handles = c.args.handles.items in let handle = c.in-Some.handle in
    let rest = into_iter_items c.next.new.self in let shorter = ap length c.in-Some.ensures.steps.0 in let all = c.loop-handle.invariant.all in
    let low : index < length slots = omega (arith, all, shorter) in
    let next = subst (λ (left : List (Box Handle Global)). Follow index left handles) c.in-Some.ensures.steps.0 c.loop-handle.invariant.next in
    let long = length-set slots index c.lower.new.slot in
    record {
      next = follow-tail index handle rest handles next;
      done = one-lowered index handles slots handle c.lower.new.slot low c.loop-handle.invariant.done (follow-head index handle rest handles next) c.lower.ensures.1;
      all = omega (arith, all, shorter, long);
      rest = let was = c.loop-handle.invariant.rest in let gone = c.in-Some.ensures.steps.1 in omega (arith, was, gone, shorter);
    }

pub returns-clause-lowered : goal.returns-clause-lowered
returns-clause-lowered c =
    let last = c.loop-handle in let rest = into_iter_items last.handle-iterator in
    let none : rest ≡ [] = nil_from_length rest (sym last.invariant.rest ∙ c.in-None.ensures.steps.0) in let over = ap length none in let all = last.invariant.all in
    all-lowered last.index c.args.handles.items last.slots (omega (arith, over, all)) last.invariant.done
