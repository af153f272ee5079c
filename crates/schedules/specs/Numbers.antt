-- Decimal numbers as words have them: digits alone, where leading zeros are allowed.
use Rattle.std.specs.Prelude.{ℕ, ◌+◌, ◌-◌, ◌*◌, ◌&&◌, List, [], ◌∷◌, length, Option, Some, None, nat_le, if◌then◌else◌, option_and_then}

-- the value of a decimal digit
abbrev pub digit_of : ℕ → Option ℕ
digit_of byte = if nat_le 48 byte && nat_le byte 57 then Some (byte - 48) else None

-- a number with these digits behind it
abbrev pub with_digits : ℕ → List ℕ → Option ℕ
with_digits number [] = Some number
with_digits number (byte ∷ more) = option_and_then (λ digit. with_digits (10 * number + digit) more) (digit_of byte)

-- the number, where it is at most the limit
abbrev pub at_most : ℕ → ℕ → Option ℕ
at_most limit number = if nat_le number limit then Some number else None

-- the number of one or more digits, but no more than so many, where it is at most the limit
unfoldable pub number_of : ℕ → ℕ → List ℕ → Option ℕ
number_of most limit text =
    if nat_le 1 (length text) && nat_le (length text) most then option_and_then (at_most limit) (with_digits 0 text) else None
