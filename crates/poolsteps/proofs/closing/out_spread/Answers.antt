use Rattle.poolsteps.specs.Layout.{spots_at}
use Rattle.keybits.specs.Shapes.{callers}
-- The shares are lifted by falling number, and each is merged in.
use Rattle.std.proofs.Common.{◌≡◌, ℕ, ◌-◌, arith, subst}
use Rattle.core.specs.Mem.Slots.{slots_items}
use Rattle.std.specs.Prelude.{None, Some, slice_get}
use Rattle.poolsteps.specs.Layout.{slot_index}
use Rattle.poolsteps.specs.Joins.{IsSet}
use Rattle.poolsteps.proofs.Joining.{part-some, part-is, joined-first, part-before, may-merge, joined-more, all-gone}
use Rattle.poolsteps.proofs.closing.out_spread.Goals as goal

pub lift-requires-clause-share : goal.lift-requires-clause-share
lift-requires-clause-share g c =
    let z = c.args.shape.now in
    let last : ℕ = (callers z) - 1 in
    let lanes = c.requires.shape.lanes in
    let spread = c.requires.spread in
    part-some (slots_items c.args.slots.now) (slot_index z c.args.place last) c.slot_at.result (spots_at c.args.directory.ptr c.args.shape.now c.args.place) spread.cell last (callers z)
    c.slot_at.ensures.slot (spread.each last (omega (arith, lanes)))

pub loop-number-init : goal.loop-number-init
loop-number-init g c =
    let z = c.args.shape.now in
    let lanes = c.requires.shape.lanes in
    let at = c.slot_at.ensures.slot in
    joined-first (spots_at c.args.directory.ptr c.args.shape.now) z c.requires.shape c.args.place c.requires.place c.args.slots.now c.lift.new.slots ((callers z) - 1) c.lift.result c.of_last-rest.result c.requires.row c.requires.spread
    (omega (arith, lanes)) (subst (λ i. slice_get (slots_items c.args.slots.now) i ≡ Some (Some c.lift.result)) at c.lift.ensures.share)
    (subst (λ i. IsSet i None c.args.slots.now c.lift.new.slots) at c.lift.ensures.slots) c.of_last-rest.ensures

pub lift-requires-in-loop-number-clause-share : goal.lift-requires-in-loop-number-clause-share
lift-requires-in-loop-number-clause-share g c =
    let z = c.args.shape.now in
    let next : ℕ = c.loop-number.number - 1 in
    let some = c.loop-number-test.true in
    let j = c.loop-number.invariant in
    part-some (slots_items c.loop-number.slots) (slot_index z c.args.place next) c.slot_at-in-loop-number.result (spots_at c.args.directory.ptr c.args.shape.now c.args.place) j.spread.cell next (callers z)
    c.slot_at-in-loop-number.ensures.slot (part-before (spots_at c.args.directory.ptr c.args.shape.now) z c.requires.shape c.args.place c.requires.place next (omega (arith, some)) j)

pub loop-number-preserved : goal.loop-number-preserved
loop-number-preserved g c =
    let z = c.args.shape.now in
    let next : ℕ = c.loop-number.number - 1 in
    let some = c.loop-number-test.true in
    let at = c.slot_at-in-loop-number.ensures.slot in
    rw c.merge.ensures.rest (joined-more (spots_at c.args.directory.ptr c.args.shape.now) z c.requires.shape c.args.place c.requires.place next (omega (arith, some)) c.loop-number.invariant
    (subst (λ i. slice_get (slots_items c.loop-number.slots) i ≡ Some (Some c.lift-in-loop-number.result)) at c.lift-in-loop-number.ensures.share)
    c.lift-in-loop-number.new.slots (subst (λ i. IsSet i None c.loop-number.slots c.lift-in-loop-number.new.slots) at c.lift-in-loop-number.ensures.slots))

pub returns-clause-gone : goal.returns-clause-gone
returns-clause-gone g c =
    let most = c.loop-number-test.false in
    all-gone (spots_at c.args.directory.ptr c.args.shape.now) c.args.shape.now c.requires.shape c.args.place c.requires.place c.args.slots.now c.loop-number.slots c.loop-number.number c.loop-number.rest (omega (arith, most)) c.loop-number.invariant

pub slot_at-requires : goal.slot_at-requires
slot_at-requires g c =
    let lanes = c.requires.shape.lanes in
    record { shape = c.requires.shape; place = c.requires.place; position = c.requires.position; lane = omega (arith, lanes) }

pub lift-requires-clause-full : goal.lift-requires-clause-full
lift-requires-clause-full g c = c.requires.row.0

pub of_last-rest-requires : goal.of_last-rest-requires
of_last-rest-requires g c =
    let z = c.args.shape.now in
    let last : ℕ = (callers z) - 1 in
    let lanes = c.requires.shape.lanes in
    let spread = c.requires.spread in
    let part = part-is (slots_items c.args.slots.now) (slot_index z c.args.place last) (spots_at c.args.directory.ptr c.args.shape.now c.args.place) spread.cell last (callers z) c.lift.result (spread.each last (omega (arith, lanes)))
    (subst (λ i. slice_get (slots_items c.args.slots.now) i ≡ Some (Some c.lift.result)) c.slot_at.ensures.slot c.lift.ensures.share) in
    omega (arith, lanes, part.1, part.2)

pub slot_at-requires-in-loop-number : goal.slot_at-requires-in-loop-number
slot_at-requires-in-loop-number g c =
    let some = c.loop-number-test.true in
    let below = c.loop-number.invariant.below in
    record { shape = c.requires.shape; place = c.requires.place; position = c.requires.position; lane = omega (arith, some, below) }

pub lift-requires-in-loop-number-clause-full : goal.lift-requires-in-loop-number-clause-full
lift-requires-in-loop-number-clause-full g c = c.loop-number.invariant.drains.row.0

pub merge-requires : goal.merge-requires
merge-requires g c =
    let next : ℕ = c.loop-number.number - 1 in
    let some = c.loop-number-test.true in
    may-merge (spots_at c.args.directory.ptr c.args.shape.now) c.args.shape.now c.requires.shape c.args.place c.requires.place next (omega (arith, some)) c.loop-number.invariant
    (subst (λ i. slice_get (slots_items c.loop-number.slots) i ≡ Some (Some c.lift-in-loop-number.result)) c.slot_at-in-loop-number.ensures.slot
    c.lift-in-loop-number.ensures.share)

pub into_whole-requires : goal.into_whole-requires
into_whole-requires g c = let most = c.loop-number-test.false in let is = c.loop-number.invariant.number_is in omega (arith, most, is)

pub returns-clause-drains : goal.returns-clause-drains
returns-clause-drains g c = c.loop-number.invariant.drains
