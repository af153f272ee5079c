-- Decimal numbers.
use Rattle.std.proofs.Common.{◌≡◌, ◌≢◌, ℕ, ◌<◌, ◌≤◌, ◌^◌, List, [], ◌∷◌, length, get_or, Result, Ok, Err, decimal, IsUtf8, sym, ap, ◌∙◌, arith, subst, inl, inr}
use Rattle.std.specs.Str.Parse.{digits_value, ParsesUnsigned, AllDigits}
use Rattle.std.proofs.lemmas.Fmt.{decimal_is_IsNumeral, decimal_nonempty, first_decimal, decimal_digit, decimal-digits_value, parse-decimal, IsAscii-decimal, decimal_injective}
use Rattle.std.proofs.lemmas.Str.{IsUtf8-from_ascii}
use Rattle.std.proofs.lemmas.Str.Parse.{IsNumeralModel, numerals_by_value, tells_digits, parse_plain, digit_from_value, digit_at}
use Rattle.std.proofs.lemmas.Bool.{cases_eq}
use Rattle.keybits.specs.declared.place.TheConstants.{GREATEST_PLACE}
use Rattle.seqpool.specs.ActsText.{IsU32, IsKeyNumber, IsPlaceNumber}
use Rattle.seqpool.specs.ReadTexts.{Without, spaced}
use Rattle.seqpool.proofs.Parts.{IsCut, one-cut, uncut}

-- no number up to the limit is written so
abbrev pub IsNoNumber : ℕ → List ℕ → Type 0
IsNoNumber limit text = (n : ℕ) → n ≤ limit → text ≡ decimal n → ⊥

own : IsNumeralModel (AllDigits 10) (digits_value 10)
own = numerals_by_value (AllDigits 10) tells_digits

-- a number's first byte is a digit, and not 0 where more follow
first-digit : (n : ℕ) → n < 2 ^ 64 → 48 ≤ get_or (decimal n) 0 0
first-digit n small = (digit_at (decimal n) 0 (decimal_is_IsNumeral n small).0.1 (decimal_nonempty n small)).0

zero-alone : (n : ℕ) → n < 2 ^ 64 → get_or (decimal n) 0 0 ≡ 48 → length (decimal n) ≡ 1
zero-alone n small first = elim (cases_eq n 0) [
  | inl same ↦ ap length (ap decimal same ∙ decimal_digit 0 (omega arith))
  | inr other ↦ absurd (let above : 48 < get_or (decimal n) 0 0 = first_decimal n (omega arith) small in omega arith)
]

pub number-empty : (limit : ℕ) (text : List ℕ) → limit < 2 ^ 64 → length text ≡ 0 → IsNoNumber limit text
number-empty limit text small none n low is =
    let some : 0 < length (decimal n) = decimal_nonempty n (omega arith) in
    let same : length text ≡ length (decimal n) = ap length is in omega arith

pub number-plus : (limit : ℕ) (text : List ℕ) → limit < 2 ^ 64 → get_or text 0 0 ≡ 43 → IsNoNumber limit text
number-plus limit text small plus n low is =
    let digit : 48 ≤ get_or (decimal n) 0 0 = first-digit n (omega arith) in
    let same : get_or text 0 0 ≡ get_or (decimal n) 0 0 = ap (λ (xs : List ℕ). get_or xs 0 0) is in omega arith

pub number-zeros : (limit : ℕ) (text : List ℕ) → limit < 2 ^ 64 → get_or text 0 0 ≡ 48 → 1 < length text → IsNoNumber limit text
number-zeros limit text small zero long n low is =
    let one : length (decimal n) ≡ 1 = zero-alone n (omega arith) (sym (ap (λ (xs : List ℕ). get_or xs 0 0) is) ∙ zero) in
    let same : length text ≡ length (decimal n) = ap length is in omega arith

pub number-no_text : (limit : ℕ) (text : List ℕ) → limit < 2 ^ 64 → ¬ (IsUtf8 text) → IsNoNumber limit text
number-no_text limit text small none n low is =
    none (subst (λ (xs : List ℕ). IsUtf8 xs) (sym is) (IsUtf8-from_ascii (decimal n) (IsAscii-decimal n (omega arith))))

pub number-unparsed : {E : Type 0} (limit : ℕ) (text digits : List ℕ) (r : Result ℕ E) (e : E) → limit < 2 ^ 64 → digits ≡ text
    → r ≡ Err e → ParsesUnsigned 64 10 digits r → IsNoNumber limit text
number-unparsed limit text digits r e small same none parsed n low is =
    let ok : r ≡ Ok n = parse-decimal 64 n digits r (omega arith) (omega arith) (same ∙ is) parsed in absurd (cc)

pub number-large : {E : Type 0} (limit : ℕ) (text digits : List ℕ) (r : Result ℕ E) (m : ℕ) → limit < 2 ^ 64 → digits ≡ text
    → r ≡ Ok m → ParsesUnsigned 64 10 digits r → limit < m → IsNoNumber limit text
number-large limit text digits r m small same some parsed large n low is =
    let ok : r ≡ Ok n = parse-decimal 64 n digits r (omega arith) (omega arith) (same ∙ is) parsed in
    let equal : m ≡ n = cc in omega arith

pub number-parsed : {E : Type 0} (text digits : List ℕ) (r : Result ℕ E) (m : ℕ) → digits ≡ text → r ≡ Ok m
    → ParsesUnsigned 64 10 digits r → get_or text 0 0 ≢ 43 → (get_or text 0 0 ≡ 48 → length text ≤ 1) → text ≡ decimal m
number-parsed {E} text digits r m same some parsed unsigned alone =
    let here : ParsesUnsigned 64 10 text r = subst (λ (xs : List ℕ). ParsesUnsigned 64 10 xs r) same parsed in
    let read : ParsesUnsigned {E = E} 64 10 text (Ok m) = subst (λ (q : Result ℕ E). ParsesUnsigned 64 10 text q) some here in
    let plain = parse_plain own {E = E} 64 text (Ok m) read unsigned in
    let value : m ≡ digits_value 10 text = plain.1 in
    let written : decimal (digits_value 10 text) ≡ text =
    decimal-digits_value own text plain.0.0 plain.0.1 (λ zero. let short : length text ≤ 1 = alone zero in omega arith) plain.0.2 in
    sym written ∙ ap decimal (sym value)

digits-Without : (separator : ℕ) (ds : List ℕ) → separator < 48 → AllDigits 10 ds → Without separator ds
digits-Without separator [] low digits = tt
digits-Without separator (d ∷ ds) low digits =
    ((λ same. let range = digit_from_value d digits.0 in let above : 48 ≤ d = range.0 in omega arith), digits-Without separator ds low digits.1)

-- a number's text has digits only
pub decimal-Without : (separator n : ℕ) → separator < 48 → n < 2 ^ 64 → Without separator (decimal n)
decimal-Without separator n low small = digits-Without separator (decimal n) low (decimal_is_IsNumeral n small).0.1

-- a number and what stands behind it have one text
pub one-number : (n m : ℕ) (a b : List ℕ) → n < 2 ^ 64 → m < 2 ^ 64 → spaced (decimal n) a ≡ spaced (decimal m) b → (n ≡ m) × (a ≡ b)
one-number n m a b small few is =
    let (front, back) =
    one-cut 32 (decimal n) a (decimal m) b (decimal-Without 32 n (omega arith) small) (decimal-Without 32 m (omega arith) few) is in
    (decimal_injective n m small few front, back)

-- the text begins with this number and a space
abbrev pub IsLed : ℕ → ℕ → List ℕ → List ℕ → Type 0
IsLed limit n text rest = (n ≤ limit) × (text ≡ spaced (decimal n) rest)

-- no number up to the limit stands before the first space
abbrev pub IsNotLed : ℕ → List ℕ → Type 0
IsNotLed limit text = (n : ℕ) (rest : List ℕ) → n ≤ limit → text ≡ spaced (decimal n) rest → ⊥

pub uncut-unled : (limit : ℕ) (text : List ℕ) → Without 32 text → IsNotLed limit text
uncut-unled limit text none n rest low is = uncut 32 text (decimal n) rest none is

pub no-number-unled : (limit : ℕ) (text a b : List ℕ) → limit < 2 ^ 64 → IsCut 32 text a b → IsNoNumber limit a → IsNotLed limit text
no-number-unled limit text a b small (is, one) never n rest low other =
    never n low (one-cut 32 a b (decimal n) rest one (decimal-Without 32 n (omega arith) (omega arith)) (sym is ∙ other)).0

-- the ranges of a reader

pub one-u32 : (n m : ℕ) (a b : List ℕ) → IsU32 n → IsU32 m → spaced (decimal n) a ≡ spaced (decimal m) b → (n ≡ m) × (a ≡ b)
one-u32 n m a b low small is =
    let few : n ≤ 4294967295 = low in
    let less : m ≤ 4294967295 = small in one-number n m a b (omega arith) (omega arith) is

pub one-key : (n m : ℕ) (a b : List ℕ) → IsKeyNumber n → IsKeyNumber m → spaced (decimal n) a ≡ spaced (decimal m) b → (n ≡ m) × (a ≡ b)
one-key n m a b low small is =
    let few : n ≤ 18446744073709551615 = low in
    let less : m ≤ 18446744073709551615 = small in one-number n m a b (omega arith) (omega arith) is

pub u32-same : (n m : ℕ) → IsU32 n → IsU32 m → decimal n ≡ decimal m → n ≡ m
u32-same n m low small is =
    let few : n ≤ 4294967295 = low in
    let less : m ≤ 4294967295 = small in decimal_injective n m (omega arith) (omega arith) is

pub key-same : (n m : ℕ) → IsKeyNumber n → IsKeyNumber m → decimal n ≡ decimal m → n ≡ m
key-same n m low small is =
    let few : n ≤ 18446744073709551615 = low in
    let less : m ≤ 18446744073709551615 = small in decimal_injective n m (omega arith) (omega arith) is

pub place-same : (n m : ℕ) → IsPlaceNumber n → IsPlaceNumber m → decimal n ≡ decimal m → n ≡ m
place-same n m low small is =
    let few : n ≤ GREATEST_PLACE = low in
    let less : m ≤ GREATEST_PLACE = small in decimal_injective n m (omega arith) (omega arith) is

pub u32-Without : (separator n : ℕ) → separator < 48 → IsU32 n → Without separator (decimal n)
u32-Without separator n below low = let few : n ≤ 4294967295 = low in decimal-Without separator n below (omega arith)

pub key-Without : (separator n : ℕ) → separator < 48 → IsKeyNumber n → Without separator (decimal n)
key-Without separator n below low = let few : n ≤ 18446744073709551615 = low in decimal-Without separator n below (omega arith)

pub place-Without : (separator n : ℕ) → separator < 48 → IsPlaceNumber n → Without separator (decimal n)
place-Without separator n below low = let few : n ≤ GREATEST_PLACE = low in decimal-Without separator n below (omega arith)
