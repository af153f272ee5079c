-- Registers of which one is set.
use Rattle.std.proofs.Common.{◌≡◌, ◌≢◌, ℕ, zero, suc, ◌+◌, ◌<◌, ◌≤◌, List, [], ◌∷◌, length, set, get_or, sum_by, refl, sym, ap, ◌∙◌, arith, true, Option, Some, None, is_some}
use Rattle.std.proofs.lemmas.List.Sums.{sum_by-cons}
use Rattle.workers.specs.declared.registers.Register.{Register}
use Rattle.workers.specs.declared.registers.Held.{Held}
use Rattle.workers.specs.declared.registers.Held.TheVariants.{Empty}
use Rattle.workers.specs.Held.{where_some}
use Rattle.workers.specs.Lines.{register_at, with_held}

pub at-same : (xs : List Register) (n : ℕ) (r : Register) → n < length xs → register_at (set xs n r) n ≡ r
at-same [] n r inside = absurd (omega arith)
at-same (x ∷ xs) zero r inside = refl
at-same (x ∷ xs) (suc n) r inside = at-same xs n r (omega arith)

-- what an index reads
pub at-got : (xs : List Register) (n : ℕ) (r : Register) → n < length xs → register_at xs n ≡ get_or xs n r
at-got [] n r inside = absurd (omega arith)
at-got (x ∷ xs) zero r inside = refl
at-got (x ∷ xs) (suc n) r inside = at-got xs n r (omega arith)

pub put-back : (xs : List Register) (n : ℕ) (r : Register) → n < length xs → set xs n (get_or xs n r) ≡ xs
put-back [] n r inside = absurd (omega arith)
put-back (x ∷ xs) zero r inside = refl
put-back (x ∷ xs) (suc n) r inside = ap (λ (ys : List Register). x ∷ ys) (put-back xs n r (omega arith))

-- something else is held
pub held-now : (xs : List Register) (n : ℕ) (r : Register) (held : Held) → n < length xs
    → set xs n (record { held = held; last_key = (get_or xs n r).last_key }) ≡ with_held xs n held
held-now xs n r held inside = ap (λ (x : Register). set xs n (record { held = held; last_key = x.last_key })) (sym (at-got xs n r inside))

-- what was held is taken out
pub taken-out : {A : Type 0} (taken : Option A) (xs : List Register) (n : ℕ) (r : Register) (held : Held) → n < length xs → true ≡ is_some taken → held ≡ Empty
    → set xs n (record { held = held; last_key = (get_or xs n r).last_key }) ≡ where_some taken (with_held xs n Empty) xs
taken-out None xs n r held inside some is = absurd (cc some)
taken-out (Some taken) xs n r held inside some is = held-now xs n r held inside ∙ ap (λ (h : Held). with_held xs n h) is

pub at-other : (xs : List Register) (n i : ℕ) (r : Register) → i ≢ n → register_at (set xs n r) i ≡ register_at xs i
at-other [] zero i r other = refl
at-other [] (suc n) i r other = refl
at-other (x ∷ xs) zero zero r other = absurd (other refl)
at-other (x ∷ xs) zero (suc i) r other = refl
at-other (x ∷ xs) (suc n) zero r other = refl
at-other (x ∷ xs) (suc n) (suc i) r other = at-other xs n i r (λ e. other (ap suc e))

pub set-again : (xs : List Register) (n : ℕ) (r s : Register) → set (set xs n r) n s ≡ set xs n s
set-again [] zero r s = refl
set-again [] (suc n) r s = refl
set-again (x ∷ xs) zero r s = refl
set-again (x ∷ xs) (suc n) r s = ap (λ (ys : List Register). x ∷ ys) (set-again xs n r s)

pub set-same : (xs : List Register) (n : ℕ) → n < length xs → set xs n (register_at xs n) ≡ xs
set-same [] n inside = absurd (omega arith)
set-same (x ∷ xs) zero inside = refl
set-same (x ∷ xs) (suc n) inside = ap (λ (ys : List Register). x ∷ ys) (set-same xs n (omega arith))

module _ (f : Register → ℕ) where
  -- a sum over them
  pub sum-set : (xs : List Register) (n : ℕ) (r : Register) → n < length xs → sum_by f (set xs n r) + f (register_at xs n) ≡ sum_by f xs + f r
  sum-set [] n r inside = absurd (omega arith)
  sum-set (x ∷ xs) zero r inside = let one = sum_by-cons f x xs in let two = sum_by-cons f r xs in omega (arith, one, two)
  sum-set (x ∷ xs) (suc n) r inside =
      let more = sum-set xs n r (omega arith) in
      let one = sum_by-cons f x xs in
      let two = sum_by-cons f x (set xs n r) in omega (arith, more, one, two)

  -- each is a part of it
  pub sum-part : (xs : List Register) (n : ℕ) → n < length xs → f (register_at xs n) ≤ sum_by f xs
  sum-part [] n inside = absurd (omega arith)
  sum-part (x ∷ xs) zero inside = let one = sum_by-cons f x xs in omega (arith, one)
  sum-part (x ∷ xs) (suc n) inside = let more = sum-part xs n (omega arith) in let one = sum_by-cons f x xs in omega (arith, more, one)

  module _ (small : (r : Register) → f r ≤ 1) where
    sum-most : (xs : List Register) → sum_by f xs ≤ length xs
    sum-most [] = omega arith
    sum-most (x ∷ xs) =
        let more = sum-most xs in
        let one = small x in
        let sum = sum_by-cons f x xs in omega (arith, more, one, sum)

    -- and where one weighs nothing it is less than their number
    pub sum-less : (xs : List Register) (n : ℕ) → n < length xs → f (register_at xs n) ≡ 0 → sum_by f xs + 1 ≤ length xs
    sum-less [] n inside none = absurd (omega arith)
    sum-less (x ∷ xs) zero inside none = let more = sum-most xs in let sum = sum_by-cons f x xs in omega (arith, more, none, sum)
    sum-less (x ∷ xs) (suc n) inside none =
        let more = sum-less xs n (omega arith) none in
        let one = small x in
        let sum = sum_by-cons f x xs in omega (arith, more, one, sum)
