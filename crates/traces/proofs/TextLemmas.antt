-- Lists that begin with another, and texts one after the other.
use Rattle.std.proofs.Common.{◌≡◌, ℕ, List, ◌++◌, sym, ◌∙◌, ap, append_assoc, codes}
use Rattle.std.specs.Prelude.{Result, Ok, Err, OnErr}
use mathlib.Core.List.{IsPrefix}

-- what begins with a longer list begins with a shorter one
pub prefix_before : (old text mid new : List ℕ) → mid ≡ old ++ text → IsPrefix mid new → IsPrefix old new
prefix_before old text mid new e (more, grown) =
    (text ++ more, sym (append_assoc old text more) ∙ ap (λ (xs : List ℕ). xs ++ more) (sym e) ∙ grown)

-- a text after another
pub appended : (old text more mid new : List ℕ) → mid ≡ old ++ text → new ≡ mid ++ more → new ≡ old ++ (text ++ more)
appended old text more mid new e f = f ∙ (ap (λ (xs : List ℕ). xs ++ more) e ∙ append_assoc old text more)

-- the parts of the line of a step
pub step_parts : (lane kind word before after : List ℕ)
    → lane ++ (codes " " ++ kind ++ codes " ") ++ word ++ (codes " " ++ before ++ (codes " " ++ after) ++ codes "\n")
    ≡ lane ++ codes " " ++ kind ++ codes " " ++ word ++ codes " " ++ before ++ codes " " ++ after ++ codes "\n"
step_parts lane kind word before after = simp append_assoc

-- what holds anyway holds on an error
pub on_err : {T E P : Type 0} → (r : Result T E) → P → OnErr r P
on_err (Ok x) p = tt
on_err (Err e) p = p
