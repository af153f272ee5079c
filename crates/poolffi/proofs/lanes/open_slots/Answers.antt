-- The fault that is answered is the first of the shape, and without a fault the slots have what was opened.
use Rattle.std.proofs.Common.{rules, ◌≡◌, ◌∙◌, ℕ, [], ◌∷◌, Err, Some, length, slice_get, refl, ap, inl, inr}
use Rattle.keybits.specs.declared.shape.ShapeFault.{ShapeFault}
use Rattle.keybits.specs.ShapeFaults.{IsFirstWideFault}
use Rattle.poolhandle.specs.declared.handle.Handle.{Handle}
use Rattle.poolhandle.specs.declared.slot.Slot.{Slot}
use Rattle.poolhandle.specs.Opened.{IsFirstHandle}
use Rattle.poolffi.proofs.lanes.open_slots.Goals as goal

pub returns-in-Ok : goal.returns-in-Ok
returns-in-Ok c =
    let count : length c.args.slots.now ≡ c.args.shape.lanes = search rules in
    let none = c.any_has_lane.ensures.no (search rules) in
    let long = c.lower_all.ensures.count ∙ ap length c.any_has_lane.ensures.same in
    let opened = c.in-Ok.ensures.opened in
    let each : (index : ℕ) (slot : Slot) → slice_get c.lower_all.new.slots index ≡ Some slot → (handle : Handle) × (slot.items ≡ handle ∷ []) × IsFirstHandle opened.shared index handle
    = λ index slot at. let put = c.lower_all.ensures.lowered index slot at in (put.0.value, put.2, opened.each index put.0 put.1) in
    let sound : (fault : ShapeFault) → IsFirstWideFault c.args.shape fault → ⊥ = λ fault first. let said = (rw c.in-Ok.is at (c.open_handles.ensures.faults fault)).1 first in absurd (cc said) in
    inr (count, inr (none, inr (inr (refl, sound, long, (opened.shared, opened.shared_is, each)))))

pub returns-in-Err-Shape : goal.returns-in-Err-Shape
returns-in-Err-Shape c =
    let fault = c.in-Err-Shape.field-0-0 in
    let first = (c.open_handles.ensures.faults fault).0 (c.in-Err-Shape.is ∙ ap Err c.in-Err-Shape.field-0-is) in
    let count : length c.args.slots.now ≡ c.args.shape.lanes = search rules in
    let none = c.any_has_lane.ensures.no (search rules) in
    inr (count, inr (none, inl (refl, (fault, first), c.any_has_lane.ensures.same)))
