-- Numbers that are read digit by digit.
use Rattle.std.proofs.Common.{◌≡◌, ℕ, ◌+◌, ◌*◌, List, [], ◌∷◌, Option, Some, None, Bool, true, false, ◌&&◌, length, nat_le, cond, option_and_then, refl, ap, arith}
use Rattle.std.proofs.lemmas.Bool.{leb-true, leb-false}
use Rattle.schedules.specs.Numbers.{digit_of, with_digits, at_most, number_of}

-- the number of a text, where it is within the limit, digit by digit
abbrev pub bounded : ℕ → ℕ → List ℕ → Option ℕ
bounded limit number text = option_and_then (at_most limit) (with_digits number text)

large : (limit number : ℕ) → nat_le number limit ≡ false → at_most limit number ≡ None
large limit number e = ap (λ (b : Bool). cond b (Some number) None) e

longer : (limit number digit : ℕ) → nat_le number limit ≡ false → (b : Bool) → nat_le (10 * number + digit) limit ≡ b → nat_le (10 * number + digit) limit ≡ false
longer limit number digit e true is =
    let low = leb-true (10 * number + digit) limit is in
    let high = leb-false number limit e in absurd (omega arith)
longer limit number digit e false is = is

-- more digits make no number smaller
pub past : (limit number : ℕ) (text : List ℕ) → nat_le number limit ≡ false → bounded limit number text ≡ None
past limit number [] e = large limit number e
past limit number (byte ∷ more) e = at (digit_of byte) (λ digit. past limit (10 * number + digit) more (longer limit number digit e _ refl))
  where
    at : (d : Option ℕ) → ((digit : ℕ) → bounded limit (10 * number + digit) more ≡ None)
        → option_and_then (at_most limit) (option_and_then (λ digit. with_digits (10 * number + digit) more) d) ≡ None
    at None later = refl
    at (Some digit) later = later digit

-- one digit more is read
pub bounded-next : (limit number byte : ℕ) (more : List ℕ) (next : ℕ) → Some next ≡ option_and_then (λ digit. at_most limit (10 * number + digit)) (digit_of byte)
    → bounded limit number (byte ∷ more) ≡ bounded limit next more
bounded-next limit number byte more next e = at (digit_of byte) e
  where
    within : (digit : ℕ) (b : Bool) → nat_le (10 * number + digit) limit ≡ b → Some next ≡ cond b (Some (10 * number + digit)) None → 10 * number + digit ≡ next
    within digit true is same = cc same
    within digit false is same = absurd (cc same)

    at : (d : Option ℕ) → Some next ≡ option_and_then (λ digit. at_most limit (10 * number + digit)) d
        → option_and_then (at_most limit) (option_and_then (λ digit. with_digits (10 * number + digit) more) d) ≡ bounded limit next more
    at None same = absurd (cc same)
    at (Some digit) same = ap (λ (n : ℕ). bounded limit n more) (within digit (nat_le (10 * number + digit) limit) refl same)

-- a byte is no digit, or makes the number too large
pub bounded-stop : (limit number byte : ℕ) (more : List ℕ) → None ≡ option_and_then (λ digit. at_most limit (10 * number + digit)) (digit_of byte)
    → bounded limit number (byte ∷ more) ≡ None
bounded-stop limit number byte more e = at (digit_of byte) e
  where
    without : (digit : ℕ) (b : Bool) → nat_le (10 * number + digit) limit ≡ b → None ≡ cond b (Some (10 * number + digit)) None → nat_le (10 * number + digit) limit ≡ false
    without digit true is same = absurd (cc same)
    without digit false is same = is

    at : (d : Option ℕ) → None ≡ option_and_then (λ digit. at_most limit (10 * number + digit)) d
        → option_and_then (at_most limit) (option_and_then (λ digit. with_digits (10 * number + digit) more) d) ≡ None
    at None same = refl
    at (Some digit) same = past limit (10 * number + digit) more (without digit (nat_le (10 * number + digit) limit) refl same)

-- a text without a number within the limit
pub number_of-none : (most limit : ℕ) (text : List ℕ) → bounded limit 0 text ≡ None → number_of most limit text ≡ None
unfolding number_of
number_of-none most limit text e = at (nat_le 1 (length text) && nat_le (length text) most)
  where
    at : (b : Bool) → cond b (bounded limit 0 text) None ≡ None
    at true = e
    at false = refl
