-- Items of lists, and counts.
use Rattle.std.proofs.Common.{◌≡◌, ◌⊎◌, inl, inr, ℕ, zero, suc, List, [], ◌∷◌, ◌++◌, Some, length, take, refl, ap, sym, ◌∙◌, subst}
use Rattle.std.specs.Prelude.{slice_get, slice_set}
use Rattle.outcomes.specs.Among.{IsIn, AreOnce, IsCount}

module _ {A : Type 0} where
  pub in-front : (x : A) (xs ys : List A) → IsIn x xs → IsIn x (xs ++ ys)
  in-front x [] ys is = absurd is
  in-front x (y ∷ xs) ys (inl e) = inl e
  in-front x (y ∷ xs) ys (inr is) = inr (in-front x xs ys is)

  pub in-behind : (x : A) (xs ys : List A) → IsIn x ys → IsIn x (xs ++ ys)
  in-behind x [] ys is = is
  in-behind x (y ∷ xs) ys is = inr (in-behind x xs ys is)

  pub in-either : (x : A) (xs ys : List A) → IsIn x (xs ++ ys) → IsIn x xs ⊎ IsIn x ys
  in-either x [] ys is = inr is
  in-either x (y ∷ xs) ys (inl e) = inl (inl e)
  in-either x (y ∷ xs) ys (inr is) = elim (in-either x xs ys is) as (λ _. IsIn x (y ∷ xs) ⊎ IsIn x ys) [
    | inl here ↦ inl (inr here)
    | inr there ↦ inr there
  ]

  -- what is pushed behind a list
  pub in-pushed : (x y : A) (xs : List A) → IsIn x (xs ++ y ∷ []) → IsIn x xs ⊎ (x ≡ y)
  in-pushed x y xs is = elim (in-either x xs (y ∷ []) is) as (λ _. IsIn x xs ⊎ (x ≡ y)) [
    | inl here ↦ inl here
    | inr there ↦ elim there as (λ _. IsIn x xs ⊎ (x ≡ y)) [
      | inl e ↦ inr e
      | inr none ↦ absurd none
    ]
  ]

  pub at-in : (xs : List A) (i : ℕ) (x : A) → slice_get xs i ≡ Some x → IsIn x xs
  at-in [] i x at = absurd (cc at)
  at-in (y ∷ xs) zero x at = let e : x ≡ y = cc at in inl e
  at-in (y ∷ xs) (suc i) x at = inr (at-in xs i x at)

  -- an item of the first so many, of which the last is known
  pub in-take : (xs : List A) (i : ℕ) (x y : A) → slice_get xs i ≡ Some y → IsIn x (take (suc i) xs) → IsIn x (take i xs) ⊎ (x ≡ y)
  in-take [] i x y at is = absurd (cc at)
  in-take (z ∷ xs) zero x y at (inl e) = let same : z ≡ y = cc at in inr (e ∙ same)
  in-take (z ∷ xs) zero x y at (inr none) = absurd none
  in-take (z ∷ xs) (suc i) x y at (inl e) = inl (inl e)
  in-take (z ∷ xs) (suc i) x y at (inr is) = elim (in-take xs i x y at is) as (λ _. IsIn x (z ∷ take i xs) ⊎ (x ≡ y)) [
    | inl here ↦ inl (inr here)
    | inr e ↦ inr e
  ]

  pub in-set : (xs : List A) (i : ℕ) (x y : A) → IsIn x (slice_set xs i y) → IsIn x xs ⊎ (x ≡ y)
  in-set [] i x y is = absurd is
  in-set (z ∷ xs) zero x y (inl e) = inr e
  in-set (z ∷ xs) zero x y (inr is) = inl (inr is)
  in-set (z ∷ xs) (suc i) x y (inl e) = inl (inl e)
  in-set (z ∷ xs) (suc i) x y (inr is) = elim (in-set xs i x y is) as (λ _. IsIn x (z ∷ xs) ⊎ (x ≡ y)) [
    | inl here ↦ inl (inr here)
    | inr e ↦ inr e
  ]

  pub once-append : (xs ys : List A) → AreOnce xs → AreOnce ys → ((x : A) → IsIn x xs → IsIn x ys → ⊥) → AreOnce (xs ++ ys)
  once-append [] ys a b apart = b
  once-append (x ∷ xs) ys a b apart = (
    (λ is. elim (in-either x xs ys is) as (λ _. ⊥) [
      | inl here ↦ a.0 here
      | inr there ↦ apart x (inl refl) there
    ]),
    once-append xs ys a.1 b (λ y here there. apart y (inr here) there),
  )

  -- none are such
  pub count-none : (such : A → Type 0) → ((x : A) → such x → ⊥) → IsCount such 0
  count-none such none = ([], record { each = λ x is. absurd is; whole = λ x is. absurd (none x is); once = tt }, refl)

  -- one is
  pub count-one : (such : A → Type 0) (one : A) → such one → ((x : A) → such x → x ≡ one) → IsCount such 1
  count-one such one is only = (
    one ∷ [],
    record {
      each = λ x among. elim among as (λ _. such x) [
        | inl e ↦ subst such (sym e) is
        | inr none ↦ absurd none
      ];
      whole = λ x holds. inl (only x holds);
      once = (λ none. none, tt);
    },
    refl,
  )

  -- the same are such
  pub count-same : (such other : A → Type 0) (count : ℕ) → ((x : A) → such x → other x) → ((x : A) → other x → such x)
      → IsCount other count → IsCount such count
  count-same such other count to from is = (
    is.0,
    record {
      each = λ x among. from x (is.1.each x among);
      whole = λ x holds. is.1.whole x (to x holds);
      once = is.1.once;
    },
    is.2,
  )

-- schedules with an entry before them
abbrev pub fronted : ℕ → List (List ℕ) → List (List ℕ)
fronted lane [] = []
fronted lane (schedule ∷ more) = (lane ∷ schedule) ∷ fronted lane more

pub fronted-length : (lane : ℕ) (schedules : List (List ℕ)) → length (fronted lane schedules) ≡ length schedules
fronted-length lane [] = refl
fronted-length lane (schedule ∷ more) = ap suc (fronted-length lane more)

pub in-fronted : (lane : ℕ) (schedule : List ℕ) (schedules : List (List ℕ)) → IsIn schedule schedules
    → IsIn (lane ∷ schedule) (fronted lane schedules)
in-fronted lane schedule [] is = absurd is
in-fronted lane schedule (other ∷ more) (inl e) = inl (ap (λ (s : List ℕ). lane ∷ s) e)
in-fronted lane schedule (other ∷ more) (inr is) = inr (in-fronted lane schedule more is)

pub from-fronted : (lane : ℕ) (whole : List ℕ) (schedules : List (List ℕ)) → IsIn whole (fronted lane schedules)
    → (schedule : List ℕ) × (whole ≡ lane ∷ schedule) × IsIn schedule schedules
from-fronted lane whole [] is = absurd is
from-fronted lane whole (other ∷ more) (inl e) = (other, e, inl refl)
from-fronted lane whole (other ∷ more) (inr is) =
    let rest = from-fronted lane whole more is in (rest.0, rest.1, inr rest.2)

pub fronted-once : (lane : ℕ) (schedules : List (List ℕ)) → AreOnce schedules → AreOnce (fronted lane schedules)
fronted-once lane [] once = tt
fronted-once lane (schedule ∷ more) once = (
  (λ is.
      let found = from-fronted lane (lane ∷ schedule) more is in
      let same : schedule ≡ found.0 = cc in
      once.0 (subst (λ (s : List ℕ). IsIn s more) (sym same) found.2)),
  fronted-once lane more once.1,
)
