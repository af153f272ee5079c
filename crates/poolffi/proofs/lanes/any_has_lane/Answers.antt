-- A slot that was asked is as it was.
use Rattle.std.proofs.Common.{rules, ◌+◌, ◌<◌, ◌≤◌, length, slice_index_or, refl, sym, ◌∙◌, subst, arith, IsFalse}
use Rattle.poolhandle.specs.declared.slot.Slot.{Slot}
use Rattle.poolffi.specs.Exports.{AnyHasLane, NoneHasLane, HasLane}
use Rattle.poolffi.proofs.Emptiness.{put-back, full-has, empty-has-not, NoneBelow, none-more}
use Rattle.poolffi.proofs.lanes.any_has_lane.Goals as goal

pub loop-index-init : goal.loop-index-init
loop-index-init c = (refl, λ index other low. absurd (omega (arith, low)))

pub returns-then-is_full-clause-same : goal.returns-then-is_full-clause-same
returns-then-is_full-clause-same c =
    put-back c.loop-index.slots c.loop-index.index c.is_full.new.self c.index-slots-index.result c.is_full.ensures.0 ∙ c.loop-index.invariant.0

pub returns-then-is_full-clause-yes : goal.returns-then-is_full-clause-yes
returns-then-is_full-clause-yes c = λ yes.
    let slots = c.loop-index.slots in let index = c.loop-index.index in let slot = c.index-slots-index.result in
    let low : index < length slots = search rules in
    let has : HasLane slot.items = subst (λ (s : Slot). HasLane s.items) (sym c.index-slots-index.is) (full-has (slice_index_or slots index slot) (sym c.is_full.ensures.1 ∙ search rules)) in
    subst AnyHasLane c.loop-index.invariant.0 (slot, (index, low, sym c.index-slots-index.is), has)

pub loop-index-preserved : goal.loop-index-preserved
loop-index-preserved c =
    let slots = c.loop-index.slots in let index = c.loop-index.index in let slot = c.index-slots-index.result in
    let low : index < length slots = search rules in
    let kept = put-back slots index c.is_full.new.self slot c.is_full.ensures.0 in
    let is : IsFalse c.is_full.result = search rules in (
      kept ∙ c.loop-index.invariant.0,
      subst (NoneBelow (index + 1)) (sym kept) (none-more slots index slot low c.loop-index.invariant.1 (empty-has-not (slice_index_or slots index slot) (sym c.is_full.ensures.1 ∙ is))),
    )

pub returns-clause-same : goal.returns-clause-same
returns-clause-same c = c.loop-index.invariant.0

pub returns-clause-no : goal.returns-clause-no
returns-clause-no c = λ no. subst NoneHasLane c.loop-index.invariant.0 (λ index other low.
    let long : length c.loop-index.slots ≤ c.loop-index.index = search rules in c.loop-index.invariant.1 index other (omega (arith, low, long)))
