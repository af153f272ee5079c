-- Digits and their text.
use Rattle.std.proofs.Common.{◌≡◌, ℕ, zero, suc, ◌+◌, ◌*◌, ◌/◌, ◌%◌, ◌<◌, true, false, List, [], ◌∷◌, ◌++◌, length, nat_eq, nat_lt, refl, ap, ◌∙◌, arith}
use Rattle.std.proofs.lemmas.Bool.{lt-ltb, le-ltb}
use Rattle.outcomes.specs.Numbers.{AreDigits, number_of, IsTrimmed, digits_told, told_within, number_text}
use Rattle.outcomes.proofs.CountLemmas.{no-digits, cons-digits, first-digit, more-digits}

-- ---- the highest digit

assoc : (xs ys zs : List ℕ) → (xs ++ ys) ++ zs ≡ xs ++ (ys ++ zs)
assoc [] ys zs = refl
assoc (x ∷ xs) ys zs = ap (λ (us : List ℕ). x ∷ us) (assoc xs ys zs)

pub told-last : (more : List ℕ) (highest : ℕ) → digits_told (more ++ highest ∷ []) ≡ (48 + highest) ∷ digits_told more
told-last [] highest = refl
told-last (digit ∷ more) highest = ap (λ (t : List ℕ). t ++ (48 + digit) ∷ []) (told-last more highest)

pub number-last : (more : List ℕ) → number_of (more ++ 0 ∷ []) ≡ number_of more
number-last [] = refl
number-last (digit ∷ more) = ap (λ (n : ℕ). digit + 10 * n) (number-last more)

pub trimmed-last : (more : List ℕ) (highest : ℕ) → 0 < highest → IsTrimmed (more ++ highest ∷ [])
trimmed-last [] highest some = some
trimmed-last (digit ∷ []) highest some = some
trimmed-last (digit ∷ other ∷ more) highest some = trimmed-last (other ∷ more) highest some

pub front-digits : (more : List ℕ) (highest : ℕ) → AreDigits (more ++ highest ∷ []) → AreDigits more
front-digits [] highest are = no-digits
front-digits (digit ∷ more) highest are =
    cons-digits digit more (first-digit digit (more ++ highest ∷ []) are) (front-digits more highest (more-digits digit (more ++ highest ∷ []) are))

pub last-digit : (more : List ℕ) (highest : ℕ) → AreDigits (more ++ highest ∷ []) → highest < 10
last-digit [] highest are = first-digit highest [] are
last-digit (digit ∷ more) highest are = last-digit more highest (more-digits digit (more ++ highest ∷ []) are)

-- ---- the text

some-number : (digit : ℕ) (more : List ℕ) → IsTrimmed (digit ∷ more) → 0 < number_of (digit ∷ more)
some-number digit [] some = omega arith
some-number digit (other ∷ more) trimmed = let rest = some-number other more trimmed in omega arith

-- a number of one digit
one-told : (k digit : ℕ) → digit < 10 → told_within (suc k) digit ≡ (48 + digit) ∷ []
one-told k digit less =
    let small : nat_lt digit 10 ≡ true = lt-ltb digit 10 less in
    let same : digit % 10 ≡ digit = omega arith in
    rw (small, same) refl

-- a number of more digits
more-told : (k n digit rest : ℕ) → n ≡ digit + 10 * rest → digit < 10 → 0 < rest
    → told_within (suc k) n ≡ told_within k rest ++ (48 + digit) ∷ []
more-told k n digit rest is less some =
    let large : nat_lt n 10 ≡ false = le-ltb n 10 (omega arith) in
    let above : n / 10 ≡ rest = omega arith in
    let low : n % 10 ≡ digit = omega arith in
    rw (large, above, low) refl

pub told-is : (digits : List ℕ) (k : ℕ) → AreDigits digits → IsTrimmed digits → 0 < length digits → number_of digits < k
    → told_within k (number_of digits) ≡ digits_told digits
told-is digits zero are trimmed some less = absurd (omega arith)
told-is [] (suc k) are trimmed some less = absurd (omega arith)
told-is (digit ∷ []) (suc k) are trimmed some less =
    let plain : number_of (digit ∷ []) ≡ digit = omega arith in
    ap (told_within (suc k)) plain ∙ one-told k digit (first-digit digit [] are)
told-is (digit ∷ other ∷ more) (suc k) are trimmed some less =
    let rest = number_of (other ∷ more) in
    let positive : 0 < rest = some-number other more trimmed in
    let fewer : rest < k = omega arith in
    more-told k (number_of (digit ∷ other ∷ more)) digit rest refl (first-digit digit (other ∷ more) are) positive
    ∙ ap (λ (t : List ℕ). t ++ (48 + digit) ∷ []) (told-is (other ∷ more) k (more-digits digit (other ∷ more) are) trimmed (omega arith) fewer)

pub number-told : (digits : List ℕ) → AreDigits digits → IsTrimmed digits → 0 < length digits → number_text (number_of digits) ≡ digits_told digits
unfolding number_text
number-told digits are trimmed some = told-is digits (suc (number_of digits)) are trimmed some (omega arith)

pub none-told : (digits : List ℕ) → length digits ≡ 0 → number_text (number_of digits) ≡ 48 ∷ []
unfolding number_text
none-told [] none = refl
none-told (digit ∷ more) none = absurd (omega (arith, none))

pub none-trimmed : (digits : List ℕ) → length digits ≡ 0 → IsTrimmed digits
none-trimmed [] none = tt
none-trimmed (digit ∷ more) none = absurd (omega (arith, none))

pub above-zero : (n : ℕ) → (n ≡ 0 → ⊥) → 0 < n
above-zero zero some = absurd (some refl)
above-zero (suc n) some = omega arith

pub some-length : (digits : List ℕ) → nat_eq (length digits) 0 ≡ false → 0 < length digits
some-length [] some = absurd (cc some)
some-length (digit ∷ more) some = omega arith
