-- The order of schedules.
use Rattle.std.proofs.Common.{◌≡◌, inl, inr, ℕ, ◌<◌, List, [], ◌∷◌, ◌++◌, length, refl, ◌∙◌, subst, arith}
use Rattle.outcomes.specs.Schedules.{IsUpTo}

pub upto-refl : (s : List ℕ) → IsUpTo s s
upto-refl [] = tt
upto-refl (lane ∷ s) = inr (refl, upto-refl s)

pub upto-trans : (s t u : List ℕ) → IsUpTo s t → IsUpTo t u → IsUpTo s u
upto-trans [] t u a b = tt
upto-trans (x ∷ s) [] u a b = absurd a
upto-trans (x ∷ s) (y ∷ t) [] a b = absurd b
upto-trans (x ∷ s) (y ∷ t) (v ∷ u) (inl a) (inl b) = let less : x < v = omega arith in inl less
upto-trans (x ∷ s) (y ∷ t) (v ∷ u) (inl a) (inr b) = let less : x < v = omega (arith, b.0) in inl less
upto-trans (x ∷ s) (y ∷ t) (v ∷ u) (inr a) (inl b) = let less : x < v = omega (arith, a.0) in inl less
upto-trans (x ∷ s) (y ∷ t) (v ∷ u) (inr a) (inr b) = inr (a.0 ∙ b.0, upto-trans s t u a.1 b.1)

-- schedules of the same length keep their order with the same entries behind both
pub upto-more : (s t more : List ℕ) → length s ≡ length t → IsUpTo s t → IsUpTo (s ++ more) (t ++ more)
upto-more [] [] more same is = upto-refl more
upto-more [] (y ∷ t) more same is = absurd (omega (arith, same))
upto-more (x ∷ s) [] more same is = absurd is
upto-more (x ∷ s) (y ∷ t) more same (inl less) = inl less
upto-more (x ∷ s) (y ∷ t) more same (inr is) = inr (is.0, upto-more s t more (omega (arith, same)) is.1)

-- the same of other names of the same schedules
pub upto-values : (a b s t : List ℕ) → a ≡ s → b ≡ t → IsUpTo a b → IsUpTo s t
upto-values a b s t e f is = subst (λ (x : List ℕ). IsUpTo x t) e (subst (λ (x : List ℕ). IsUpTo a x) f is)
