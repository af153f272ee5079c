-- One task more behind those of a row.
use Rattle.std.proofs.Common.{◌≡◌, ℕ, zero, suc, ◌+◌, ◌<◌, List, [], ◌∷◌, ◌++◌, length, Option, Some, slice_get, refl, sym, ap, ◌∙◌, arith}
use Rattle.std.specs.Prelude.{⊤}
use mathlib.Core.Logic.{dite}
use native.Mathlib.Decide.{ℕ_discrete}
use Rattle.logsample.specs.declared.tasks.Task.{Task}
use Rattle.logsample.specs.declared.tasks.Task.TheVariants.{Work}

-- it stands at the end
at-end : {A : Type 0} (xs : List A) (x : A) → slice_get (xs ++ x ∷ []) (length xs) ≡ Some x
at-end [] x = refl
at-end (y ∷ xs) x = at-end xs x

pub at-count : {A : Type 0} (xs : List A) (x : A) (count : ℕ) → length xs ≡ count → slice_get (xs ++ x ∷ []) count ≡ Some x
at-count xs x count long = ap (slice_get (xs ++ x ∷ [])) (sym long) ∙ at-end xs x

-- and those before it stand where they stood
pub at-front : {A : Type 0} (xs : List A) (x : A) (n : ℕ) (found : A) → slice_get xs n ≡ Some found → slice_get (xs ++ x ∷ []) n ≡ Some found
at-front [] x n found at = absurd (cc at)
at-front (y ∷ xs) x zero found at = at
at-front (y ∷ xs) x (suc n) found at = at-front xs x n found at

-- behind the tasks of the first workers that of one worker more
pub one-more : {N : Type 0} (tasks : List (Task N)) (count : ℕ) (to : ⊤) → length tasks ≡ count → ((worker : ℕ) → worker < count → (t : ⊤) × (slice_get tasks worker ≡ Some (Work worker t)))
    → (worker : ℕ) → worker < count + 1 → (t : ⊤) × (slice_get (tasks ++ Work count to ∷ []) worker ≡ Some (Work worker t))
one-more {N} tasks count to long each worker low = dite (ℕ_discrete worker count)
    (λ same. (
      to,
      ap (slice_get (tasks ++ Work count to ∷ [])) same ∙ (at-count tasks (Work count to) count long ∙ ap (λ (n : ℕ). let task : Option (Task N) = Some (Work n to) in task) (sym same)),
    ))
    (λ differs. let found = each worker (omega (arith, low, differs)) in (found.0, at-front tasks (Work count to) worker (Work worker found.0) found.1))
