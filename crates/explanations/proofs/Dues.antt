-- What is due, where what it wants is so.
use Rattle.std.proofs.Common.{◌≡◌, Result, Ok, Err, IfOk, inl, inr, subst, sym}
use Rattle.std.specs.Prelude.{◌⊎◌}
use Rattle.explanations.specs.declared.reasons.Due.{Due}
use Rattle.explanations.specs.declared.reasons.Due.TheVariants.{General}

-- what holds where an act is refused, and of what is due where it is allowed, holds of what is found
pub due-if : {E : Type 0} (Is : Due → Type 0) (refused allowed : Type 0) (due : Due) (result : Result Due E)
    → IfOk result (λ found. ((found ≡ General) × refused) ⊎ ((found ≡ due) × allowed))
    → (refused → Is General) → (allowed → Is due) → IfOk result Is
due-if Is refused allowed due (Ok found) (inl e) general given = subst Is (sym e.0) (general e.1)
due-if Is refused allowed due (Ok found) (inr h) general given = subst Is (sym h.0) (given h.1)
due-if Is refused allowed due (Err error) h general given = tt
