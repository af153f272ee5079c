-- Contents as pairs of hexadecimal digits.
use Rattle.std.proofs.Common.{◌≡◌, ◌≢◌, ℕ, ◌+◌, ◌/◌, ◌%◌, ◌<◌, ◌≤◌, List, [], ◌∷◌, ◌++◌, length, drop, get_or, Bool, true, false, cond, nat_lt, codes, refl, sym, ap, ◌∙◌, arith}
use Rattle.std.proofs.lemmas.Bool.{ltb-true, ltb-false}
use Rattle.seqpool.specs.ActsText.{hex_digit, hex_pair, hex, content_text, AreBytes}
use Rattle.seqpool.specs.ReadTexts.{Without, NothingHas, ArePairs, IsContent}
use Rattle.seqpool.proofs.Parts.{IsFirst}

digit-same : (d e : ℕ) → d < 16 → e < 16 → hex_digit d ≡ hex_digit e → d ≡ e
digit-same d e small few is = at (nat_lt d 10) (nat_lt e 10) refl refl is
  where
    at : (a b : Bool) → nat_lt d 10 ≡ a → nat_lt e 10 ≡ b → cond a (48 + d) (87 + d) ≡ cond b (48 + e) (87 + e) → d ≡ e
    at true true one two same = omega arith
    at true false one two same = let low = ltb-true d 10 one in let high = ltb-false e 10 two in omega arith
    at false true one two same = let high = ltb-false d 10 one in let low = ltb-true e 10 two in omega arith
    at false false one two same = omega arith

-- a pair of digits is that of one byte
pair-same : (b d : ℕ) → b < 256 → d < 256 → hex_pair b ≡ hex_pair d → b ≡ d
pair-same b d small few is =
    let first : hex_digit (b / 16) ≡ hex_digit (d / 16) = cc in
    let second : hex_digit (b % 16) ≡ hex_digit (d % 16) = cc in
    let high : b / 16 ≡ d / 16 = digit-same (b / 16) (d / 16) (omega arith) (omega arith) first in
    let low : b % 16 ≡ d % 16 = digit-same (b % 16) (d % 16) (omega arith) (omega arith) second in
    omega arith

two-front : (s : List ℕ) → 2 ≤ length s → s ≡ get_or s 0 0 ∷ get_or s 1 0 ∷ drop 2 s
two-front [] long = absurd (omega arith)
two-front (x ∷ []) long = absurd (omega arith)
two-front (x ∷ y ∷ s) long = refl

-- a pair of digits gives the first byte
pairs-first : (byte high low : ℕ) (s rest : List ℕ) → (byte < 256) × (high ∷ low ∷ [] ≡ hex_pair byte) → s ≡ high ∷ low ∷ rest
    → IsFirst ArePairs byte s rest
pairs-first byte high low s rest (small, pair) is = record {
  on = λ more h. ((small, h.0), is ∙ (ap (λ (xs : List ℕ). xs ++ rest) pair ∙ ap (λ (xs : List ℕ). hex_pair byte ++ xs) h.1));
  only = only;
}
  where
    only : (all : List ℕ) → ArePairs all s → (more : List ℕ) × (all ≡ byte ∷ more) × ArePairs more rest
    only [] h = let none : high ∷ low ∷ rest ≡ [] = sym is ∙ h.1 in absurd (cc)
    only (b ∷ bs) h =
        let whole : high ∷ low ∷ rest ≡ hex_digit (b / 16) ∷ hex_digit (b % 16) ∷ hex bs = sym is ∙ h.1 in
        let back : rest ≡ hex bs = cc in
        let front : high ∷ low ∷ [] ≡ hex_pair b = cc in
        (bs, ap (λ (x : ℕ). x ∷ bs) (pair-same b byte h.0.0 small (sym front ∙ pair)), (h.0.1, back))

pub pairs-next : (byte : ℕ) (s rest : List ℕ) → 2 ≤ length s → (byte < 256) × (get_or s 0 0 ∷ get_or s 1 0 ∷ [] ≡ hex_pair byte)
    → rest ≡ drop 2 s → IsFirst ArePairs byte s rest
pairs-next byte s rest long pair is =
    pairs-first byte (get_or s 0 0) (get_or s 1 0) s rest pair
    (two-front s long ∙ ap (λ (xs : List ℕ). get_or s 0 0 ∷ get_or s 1 0 ∷ xs) (sym is))

-- no byte is in the first two digits
pub pairs-never : (s : List ℕ) → 2 ≤ length s → ((byte : ℕ) → byte < 256 → get_or s 0 0 ∷ get_or s 1 0 ∷ [] ≡ hex_pair byte → ⊥)
    → NothingHas ArePairs s
pairs-never s long never [] h = let none : length s ≡ 0 = ap length h.1 in omega arith
pairs-never s long never (b ∷ bs) h =
    let whole : get_or s 0 0 ∷ get_or s 1 0 ∷ drop 2 s ≡ hex_digit (b / 16) ∷ hex_digit (b % 16) ∷ hex bs = sym (two-front s long) ∙ h.1 in
    never b h.0.0 (cc)

-- one digit is left over
pub pairs-odd : (s : List ℕ) → length s ≢ 0 → length s < 2 → NothingHas ArePairs s
pairs-odd s some short [] h = some (ap length h.1)
pairs-odd s some short (b ∷ bs) h = let long : length s ≡ length (hex (b ∷ bs)) = ap length h.1 in omega arith

-- no bytes have no digits
pub pairs-end : (s : List ℕ) → length s ≡ 0 → ArePairs [] s
pairs-end [] none = (tt, refl)
pairs-end (x ∷ s) none = absurd (omega arith)

pub content-pairs : (text bytes : List ℕ) → length text ≢ 0 → ArePairs bytes text → IsContent bytes text
content-pairs text [] some h = absurd (some (ap length h.1))
content-pairs text (b ∷ bs) some h = h

pub content-never : (text : List ℕ) → text ≢ codes "-" → NothingHas ArePairs text → NothingHas IsContent text
content-never text other never [] h = other h.1
content-never text other never (b ∷ bs) h = never (b ∷ bs) h

pub content-empty : (text : List ℕ) → length text ≡ 0 → NothingHas IsContent text
content-empty text none [] h = let long : length text ≡ 1 = ap length h.1 in omega arith
content-empty text none (b ∷ bs) h = let long : length text ≡ length (hex (b ∷ bs)) = ap length h.1 in omega arith

hex-same : (xs ys : List ℕ) → AreBytes xs → AreBytes ys → hex xs ≡ hex ys → xs ≡ ys
hex-same [] [] all each is = refl
hex-same [] (y ∷ ys) all each is = absurd (cc)
hex-same (x ∷ xs) [] all each is = absurd (cc)
hex-same (x ∷ xs) (y ∷ ys) all each is =
    let whole : hex_digit (x / 16) ∷ hex_digit (x % 16) ∷ hex xs ≡ hex_digit (y / 16) ∷ hex_digit (y % 16) ∷ hex ys = is in
    let front : hex_pair x ≡ hex_pair y = cc in
    let back : hex xs ≡ hex ys = cc in
    ap (λ (b : ℕ). b ∷ xs) (pair-same x y all.0 each.0 front) ∙ ap (λ (bs : List ℕ). y ∷ bs) (hex-same xs ys all.1 each.1 back)

-- a text is that of one content
pub content-same : (xs ys : List ℕ) → AreBytes xs → AreBytes ys → content_text xs ≡ content_text ys → xs ≡ ys
content-same [] [] all each is = refl
content-same [] (y ∷ ys) all each is = absurd (let long : 1 ≡ length (hex (y ∷ ys)) = ap length is in omega arith)
content-same (x ∷ xs) [] all each is = absurd (let long : length (hex (x ∷ xs)) ≡ 1 = ap length is in omega arith)
content-same (x ∷ xs) (y ∷ ys) all each is = hex-same (x ∷ xs) (y ∷ ys) all each is

digit-above : (d : ℕ) → 48 ≤ hex_digit d
digit-above d = at (nat_lt d 10)
  where
    at : (b : Bool) → 48 ≤ cond b (48 + d) (87 + d)
    at true = omega arith
    at false = omega arith

hex-Without : (separator : ℕ) (bytes : List ℕ) → separator < 48 → Without separator (hex bytes)
hex-Without separator [] low = tt
hex-Without separator (b ∷ more) low = (
  (λ same. let above : 48 ≤ hex_digit (b / 16) = digit-above (b / 16) in omega (arith, same, above)),
  ((λ same. let above : 48 ≤ hex_digit (b % 16) = digit-above (b % 16) in omega (arith, same, above)), hex-Without separator more low),
)

pub content-Without : (separator : ℕ) (bytes : List ℕ) → separator < 45 → Without separator (content_text bytes)
content-Without separator [] low = ((λ same. omega (arith, same)), tt)
content-Without separator (b ∷ more) low = hex-Without separator (b ∷ more) (omega arith)
