-- The fault that is answered is the first of the shape, and without a fault the slot has what was opened.
use Rattle.std.proofs.Common.{rules, ◌∙◌, Err, refl, sym, ap, inl, inr}
use Rattle.keybits.specs.declared.shape.ShapeFault.{ShapeFault}
use Rattle.keybits.specs.ShapeFaults.{IsFirstWideFault}
use Rattle.poolffi.specs.declared.pool_slot.PoolSlot.{PoolSlot}
use Rattle.poolffi.proofs.Pools.{full-has, empty-has-not}
use Rattle.poolffi.proofs.attach.attach_slot.Goals as goal

pub returns-then-is_full : goal.returns-then-is_full
returns-then-is_full c =
    inl (refl, full-has c.args.pool.now (sym c.is_full.ensures.1 ∙ search rules), ap (λ (slot : PoolSlot). slot.items) c.is_full.ensures.0)

pub returns-in-Ok : goal.returns-in-Ok
returns-in-Ok c =
    let none = empty-has-not c.args.pool.now (sym c.is_full.ensures.1 ∙ search rules) in
    let sound : (fault : ShapeFault) → IsFirstWideFault c.args.shape fault → ⊥ = λ fault first. let said = (rw c.in-Ok.is at (c.open_caller.ensures.faults fault)).1 first in absurd (cc said) in
    inr (none, inr (inr (refl, sound, (c.in-Ok.caller.value, c.lower.ensures, c.in-Ok.ensures.opened))))

pub returns-in-Err-Shape : goal.returns-in-Err-Shape
returns-in-Err-Shape c =
    let none = empty-has-not c.args.pool.now (sym c.is_full.ensures.1 ∙ search rules) in
    let fault = c.in-Err-Shape.field-0-0 in
    let first = (c.open_caller.ensures.faults fault).0 (c.in-Err-Shape.is ∙ ap Err c.in-Err-Shape.field-0-is) in
    inr (none, inl (refl, (fault, first), ap (λ (slot : PoolSlot). slot.items) c.is_full.ensures.0))

pub returns-in-Err-Memory : goal.returns-in-Err-Memory
returns-in-Err-Memory c =
    let none = empty-has-not c.args.pool.now (sym c.is_full.ensures.1 ∙ search rules) in
    inr (none, inr (inl (refl, c.in-Err-Memory.ensures.memory (search rules), ap (λ (slot : PoolSlot). slot.items) c.is_full.ensures.0)))
