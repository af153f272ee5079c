-- The lane that was lent is given the lane that was lifted, or that one is lowered as it was.
use Rattle.std.proofs.Common.{◌∷◌, [], refl, sym, ap, ◌∙◌, inl, inr, Box, Global}
use Rattle.poolhandle.specs.declared.handle.Handle.{Handle}
use Rattle.poolffi.proofs.pardz_join.Goals as goal

pub returns-in-Ok : goal.returns-in-Ok
returns-in-Ok c =
    let other = c.in-Some-lift.ensures.full in
    inr (c.in-Some.handle.now, c.in-Some-lift.other.value, c.join.new.into, c.in-Some.ensures.some, other.0, refl, inl (refl, c.in-Ok.ensures.ok, other.2))

pub returns-in-Err : goal.returns-in-Err
returns-in-Err c =
    let other = c.in-Some-lift.ensures.full in
    let err = c.in-Err.ensures.err in
    let back = c.lower.ensures.1 ∙ (ap (λ (h : Box Handle Global). h.value ∷ []) err.1 ∙ sym other.0) in
    inr (c.in-Some.handle.now, c.in-Some-lift.other.value, c.join.new.into, c.in-Some.ensures.some, other.0, refl, inr (c.in-Err.refusal, c.code_of.ensures, err.0, err.2, back))
