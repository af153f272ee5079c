-- Sums by digits.
use Rattle.std.proofs.Common.{◌≡◌, ℕ, zero, suc, ◌+◌, ◌*◌, ◌/◌, ◌%◌, ◌<◌, ◌≤◌, List, [], ◌∷◌, ◌++◌, length, drop, refl, ap, sym, ◌∙◌, subst, arith}
use Rattle.outcomes.specs.Numbers.{AreDigits, number_of, lowest, last_carry, sum_digits}

-- ---- digits

pub first-digit : (x : ℕ) (xs : List ℕ) → AreDigits (x ∷ xs) → x < 10
first-digit x xs are = are 0 0 (omega arith)

pub more-digits : (x : ℕ) (xs : List ℕ) → AreDigits (x ∷ xs) → AreDigits xs
more-digits x xs are = λ k d within. are (suc k) d (omega arith)

pub no-digits : AreDigits []
no-digits = λ k d within. absurd (omega arith)

pub cons-digits : (x : ℕ) (xs : List ℕ) → x < 10 → AreDigits xs → AreDigits (x ∷ xs)
cons-digits x xs less are zero d within = less
cons-digits x xs less are (suc k) d within = are k d (omega arith)

append-digits : (xs ys : List ℕ) → AreDigits xs → AreDigits ys → AreDigits (xs ++ ys)
append-digits [] ys a b = b
append-digits (x ∷ xs) ys a b = cons-digits x (xs ++ ys) (first-digit x xs a) (append-digits xs ys (more-digits x xs a) b)

drop-digits : (xs : List ℕ) → AreDigits xs → AreDigits (drop 1 xs)
drop-digits [] are = are
drop-digits (x ∷ xs) are = more-digits x xs are

lowest-small : (xs : List ℕ) → AreDigits xs → lowest xs < 10
lowest-small [] are = omega arith
lowest-small (x ∷ xs) are = first-digit x xs are

carry-digits : (carry : ℕ) → carry ≤ 1 → AreDigits (last_carry carry)
carry-digits zero le = no-digits
carry-digits (suc zero) le = cons-digits 1 [] (omega arith) no-digits
carry-digits (suc (suc carry)) le = absurd (omega arith)

-- ---- sums

carry-number : (carry : ℕ) → carry ≤ 1 → number_of (last_carry carry) ≡ carry
carry-number zero le = refl
carry-number (suc zero) le = refl
carry-number (suc (suc carry)) le = absurd (omega arith)

-- a digit and what is carried from it
split-digit : (d rest : ℕ) → d % 10 + 10 * (rest + d / 10) ≡ d + 10 * rest
split-digit d rest = omega arith

carry-small : (d : ℕ) → d < 20 → d / 10 ≤ 1
carry-small d less = omega arith

digit-small : (d : ℕ) → d % 10 < 10
digit-small d = omega arith

-- a first digit, and the number of those above it
first-number : (d n rest : ℕ) → n ≡ rest + d / 10 → d % 10 + 10 * n ≡ d + 10 * rest
first-number d n rest e = ap (λ (m : ℕ). d % 10 + 10 * m) e ∙ split-digit d rest

pub sum-is : (digits others : List ℕ) (carry : ℕ) → AreDigits digits → AreDigits others → carry ≤ 1
    → number_of (sum_digits digits others carry) ≡ number_of digits + number_of others + carry
sum-is [] [] carry a b le = let e : carry ≡ 0 + 0 + carry = omega arith in carry-number carry le ∙ e
sum-is [] (y ∷ others) carry a b le =
    let small = first-digit y others b in
    let rest = sum-is [] others ((y + carry) / 10) a (more-digits y others b) (carry-small (y + carry) (omega arith)) in
    let rest_is : number_of (sum_digits [] others ((y + carry) / 10)) ≡ number_of others + (y + carry) / 10 = omega (arith, rest) in
    let whole = first-number (y + carry) (number_of (sum_digits [] others ((y + carry) / 10))) (number_of others) rest_is in
    let last : (y + carry) + 10 * number_of others ≡ 0 + (y + 10 * number_of others) + carry = omega arith in
    whole ∙ last
sum-is (x ∷ digits) [] carry a b le =
    let small = first-digit x digits a in
    let rest = sum-is digits [] ((x + carry) / 10) (more-digits x digits a) b (carry-small (x + carry) (omega arith)) in
    let rest_is : number_of (sum_digits digits [] ((x + carry) / 10)) ≡ number_of digits + (x + carry) / 10 = omega (arith, rest) in
    let whole = first-number (x + carry) (number_of (sum_digits digits [] ((x + carry) / 10))) (number_of digits) rest_is in
    let last : (x + carry) + 10 * number_of digits ≡ (x + 10 * number_of digits) + 0 + carry = omega arith in
    whole ∙ last
sum-is (x ∷ digits) (y ∷ others) carry a b le =
    let small = first-digit x digits a in
    let low = first-digit y others b in
    let d = x + y + carry in
    let rest = sum-is digits others (d / 10) (more-digits x digits a) (more-digits y others b) (carry-small d (omega arith)) in
    let whole = first-number d (number_of (sum_digits digits others (d / 10))) (number_of digits + number_of others) rest in
    let last : d + 10 * (number_of digits + number_of others) ≡ (x + 10 * number_of digits) + (y + 10 * number_of others) + carry = omega arith in
    whole ∙ last

-- one digit more of the sum
sum-step : (digits others : List ℕ) (carry : ℕ) → 0 < length digits + length others
    → sum_digits digits others carry
    ≡ (lowest digits + lowest others + carry) % 10 ∷ sum_digits (drop 1 digits) (drop 1 others) ((lowest digits + lowest others + carry) / 10)
sum-step [] [] carry some = absurd (omega arith)
sum-step [] (y ∷ others) carry some =
    let e : 0 + y + carry ≡ y + carry = omega arith in
    sym (ap (λ (d : ℕ). d % 10 ∷ sum_digits [] others (d / 10)) e)
sum-step (x ∷ digits) [] carry some =
    let e : x + 0 + carry ≡ x + carry = omega arith in
    sym (ap (λ (d : ℕ). d % 10 ∷ sum_digits digits [] (d / 10)) e)
sum-step (x ∷ digits) (y ∷ others) carry some = refl

-- ---- the loop

assoc : (xs ys zs : List ℕ) → (xs ++ ys) ++ zs ≡ xs ++ (ys ++ zs)
assoc [] ys zs = refl
assoc (x ∷ xs) ys zs = ap (λ (us : List ℕ). x ∷ us) (assoc xs ys zs)

-- what the loop keeps
pub record Summed (left right sum : List ℕ) (carry : ℕ) (whole : List ℕ) : Type 0 where
  pub left_digits : AreDigits left
  pub right_digits : AreDigits right
  pub sum_are : AreDigits sum
  pub small : carry ≤ 1
  pub all : sum ++ sum_digits left right carry ≡ whole

pub sum-on : (l r m n sum new whole : List ℕ) (x y carry : ℕ) → Summed l r sum carry whole → 0 < length l + length r
    → x ≡ lowest l → y ≡ lowest r → m ≡ drop 1 l → n ≡ drop 1 r → new ≡ sum ++ ((x + y + carry) % 10) ∷ []
    → Summed m n new ((x + y + carry) / 10) whole
sum-on l r m n sum new whole x y carry s some ex ey em en e =
    let dx : x < 10 = subst (λ (k : ℕ). k < 10) (sym ex) (lowest-small l s.left_digits) in
    let dy : y < 10 = subst (λ (k : ℕ). k < 10) (sym ey) (lowest-small r s.right_digits) in
    let le : carry ≤ 1 = s.small in
    let d = x + y + carry in
    let d_is : lowest l + lowest r + carry ≡ d = omega (arith, ex, ey) in
    let step : sum_digits l r carry ≡ d % 10 ∷ sum_digits (drop 1 l) (drop 1 r) (d / 10) =
    subst (λ (k : ℕ). sum_digits l r carry ≡ k % 10 ∷ sum_digits (drop 1 l) (drop 1 r) (k / 10)) d_is (sum-step l r carry some) in
    let behind : (sum ++ (d % 10) ∷ []) ++ sum_digits (drop 1 l) (drop 1 r) (d / 10) ≡ whole =
    assoc sum ((d % 10) ∷ []) (sum_digits (drop 1 l) (drop 1 r) (d / 10)) ∙ ap (λ (t : List ℕ). sum ++ t) (sym step) ∙ s.all in
    record {
      left_digits = subst AreDigits (sym em) (drop-digits l s.left_digits);
      right_digits = subst AreDigits (sym en) (drop-digits r s.right_digits);
      sum_are = subst AreDigits (sym e)
          (append-digits sum ((d % 10) ∷ []) s.sum_are (cons-digits (d % 10) [] (digit-small d) no-digits));
      small = carry-small d (omega arith);
      all = ap (λ (t : List ℕ). t ++ sum_digits m n (d / 10)) e
          ∙ ap (λ (t : List ℕ). (sum ++ (d % 10) ∷ []) ++ sum_digits t n (d / 10)) em
          ∙ ap (λ (t : List ℕ). (sum ++ (d % 10) ∷ []) ++ sum_digits (drop 1 l) t (d / 10)) en
          ∙ behind;
    }

end-digits : (l r : List ℕ) (carry : ℕ) → length l + length r ≡ 0 → sum_digits l r carry ≡ last_carry carry
end-digits [] [] carry none = refl
end-digits [] (y ∷ r) carry none = absurd (omega (arith, none))
end-digits (x ∷ l) r carry none = absurd (omega (arith, none))

pub sum-done : (digits others l r sum new : List ℕ) (carry : ℕ) → AreDigits digits → AreDigits others
    → Summed l r sum carry (sum_digits digits others 0) → length l + length r ≡ 0 → new ≡ sum ++ last_carry carry
    → AreDigits new × (number_of new ≡ number_of digits + number_of others)
sum-done digits others l r sum new carry a b s none e =
    let whole : new ≡ sum_digits digits others 0 = e ∙ ap (λ (t : List ℕ). sum ++ t) (sym (end-digits l r carry none)) ∙ s.all in
    let plain : number_of digits + number_of others + 0 ≡ number_of digits + number_of others = omega arith in (
      subst AreDigits (sym e) (append-digits sum (last_carry carry) s.sum_are (carry-digits carry s.small)),
      ap number_of whole ∙ sum-is digits others 0 a b (omega arith) ∙ plain,
    )

pub sum-begun : (digits others sum : List ℕ) → AreDigits digits → AreDigits others → sum ≡ []
    → Summed digits others sum 0 (sum_digits digits others 0)
sum-begun digits others sum a b e = record {
  left_digits = a;
  right_digits = b;
  sum_are = subst AreDigits (sym e) no-digits;
  small = omega arith;
  all = ap (λ (t : List ℕ). t ++ sum_digits digits others 0) e;
}
