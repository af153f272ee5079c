use Rattle.std.proofs.Common.{◌∙◌, sym}
use Rattle.explanations.specs.ActsFields.{is_place_number}
use Rattle.explanations.proofs.Fields.{all-no, all-more, all-one, shorter}
use Rattle.explanations.proofs.acts_fields.are_places.Goals as goal

pub returns-then-not-is_place_number : goal.returns-then-not-is_place_number
returns-then-not-is_place_number c =
    sym (all-no is_place_number 44 c.loop-place.rest.now c.in-Some.place.now c.in-Some.after.now c.in-Some.ensures.0 c.in-Some.ensures.1 (sym c.is_place_number.ensures ∙ c.if-not-is_place_number.true))
    ∙ c.loop-place.invariant

pub loop-place-preserved : goal.loop-place-preserved
loop-place-preserved c =
    all-more is_place_number 44 c.loop-place.rest.now c.in-Some.place.now c.in-Some.after.now c.in-Some.ensures.0 c.in-Some.ensures.1 (sym c.is_place_number.ensures ∙ c.if-not-is_place_number.false)
    ∙ c.loop-place.invariant

pub loop-place-smaller : goal.loop-place-smaller
loop-place-smaller c = shorter 44 c.loop-place.rest.now c.in-Some.place.now c.in-Some.after.now c.in-Some.ensures.0

pub returns : goal.returns
returns c =
    c.is_place_number-2.ensures ∙ sym (all-one is_place_number 44 c.loop-place.rest.now c.in_default.ensures) ∙ c.loop-place.invariant
