-- Hexadecimal numbers as words have them.
use Rattle.std.specs.Prelude.{ℕ, ◌+◌, ◌-◌, ◌*◌, ◌&&◌, ◌==◌, List, [], ◌∷◌, length, Option, Some, None, nat_le, if◌then◌else◌, option_and_then}

-- the value of a hexadecimal digit of either case
abbrev pub hex_digit_of : ℕ → Option ℕ
hex_digit_of byte =
    if nat_le 48 byte && nat_le byte 57 then Some (byte - 48)
    else (if nat_le 97 byte && nat_le byte 102 then Some (byte - 87)
    else (if nat_le 65 byte && nat_le byte 70 then Some (byte - 55) else None))

-- a number with these digits behind it
abbrev pub with_hex_digits : ℕ → List ℕ → Option ℕ
with_hex_digits number [] = Some number
with_hex_digits number (byte ∷ more) = option_and_then (λ digit. with_hex_digits (16 * number + digit) more) (hex_digit_of byte)

-- a text without 0x before it
abbrev pub digits_of : List ℕ → List ℕ
digits_of [] = []
digits_of (first ∷ []) = first ∷ []
digits_of (first ∷ second ∷ more) = if first == 48 && second == 120 then more else first ∷ second ∷ more

-- the number of one to sixteen digits
abbrev pub number_with : List ℕ → Option ℕ
number_with digits = if nat_le 1 (length digits) && nat_le (length digits) 16 then with_hex_digits 0 digits else None

-- the number of one to sixteen digits, with or without 0x before them
unfoldable pub hex_number : List ℕ → Option ℕ
hex_number text = number_with (digits_of text)
