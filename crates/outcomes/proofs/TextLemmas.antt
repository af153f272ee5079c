-- The text of outcomes, and what it needs of them.
use Rattle.std.proofs.Common.{◌≡◌, ◌∙◌, ℕ, zero, suc, ◌<◌, ◌^◌, List, [], ◌∷◌, ◌++◌, length, get_or, inl, inr, refl, ap, append_assoc, arith}
use Rattle.std.specs.List.{All}
use Rattle.keybits.specs.declared.shape.Shape.{Shape}
use Rattle.traces.specs.declared.script.Command.{Command}
use Rattle.outcomes.specs.Among.{IsIn}
use Rattle.outcomes.specs.Outcomes.{AreOutcomes}
use Rattle.outcomes.specs.declared.outcome.Outcome.{Outcome}

-- what is appended to what was appended
pub joined : (old one other mid new : List ℕ) → mid ≡ old ++ one → new ≡ mid ++ other → new ≡ old ++ (one ++ other)
joined old one other mid new e f = f ∙ ap (λ (t : List ℕ). t ++ other) e ∙ simp append_assoc

in-at : (outcomes : List Outcome) (k : ℕ) (other : Outcome) → k < length outcomes → IsIn (get_or outcomes k other) outcomes
in-at [] k other within = absurd (omega arith)
in-at (outcome ∷ more) zero other within = inl refl
in-at (outcome ∷ more) (suc k) other within = inr (in-at more k other (omega arith))

-- each outcome has as many rows of replies as there are lanes
pub few-lanes : (z : Shape) (scripts : List (List Command)) (outcomes : List Outcome) (ways : ℕ) → z.lanes < 2 ^ 32
    → AreOutcomes z scripts outcomes ways → All (λ outcome. length outcome.replies.items < 2 ^ 32) outcomes
few-lanes z scripts outcomes ways less are = λ k other within.
    let outcome = get_or outcomes k other in
    let shown = (are.each outcome (in-at outcomes k other within)).shown in
    omega (arith, shown.2.count)
