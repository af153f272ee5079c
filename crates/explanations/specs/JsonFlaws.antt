-- What is wrong within a string or a number of a JSON text, by what stands there.
use Rattle.std.specs.Prelude.{◌≡◌, ℕ, ◌<◌, ◌==◌, ◌&&◌, ◌||◌, Bool, true, false, List, [], ◌∷◌, if◌then◌else◌, nat_le}
use Rattle.explanations.specs.declared.json_flaw.Flaw.{Flaw}
use Rattle.explanations.specs.declared.json_flaw.Flaw.TheVariants.{Control, Escape, Half, Zero, Digit}

-- the first of some bytes is this
abbrev pub first_is : ℕ → List ℕ → Bool
first_is byte [] = false
first_is byte (first ∷ more) = first == byte

-- ---- digits

abbrev pub is_digit : ℕ → Bool
is_digit byte = nat_le 48 byte && nat_le byte 57

-- a hexadecimal digit of either case
abbrev pub is_hex : ℕ → Bool
is_hex byte = is_digit byte || ((nat_le 65 byte && nat_le byte 70) || (nat_le 97 byte && nat_le byte 102))

-- a digit stands in front
abbrev pub has_digit : List ℕ → Bool
has_digit [] = false
has_digit (first ∷ more) = is_digit first

-- a zero stands in front of a digit
abbrev pub is_zero_led : List ℕ → Bool
is_zero_led [] = false
is_zero_led (first ∷ []) = false
is_zero_led (first ∷ second ∷ more) = (first == 48) && is_digit second

-- ---- escapes

-- a byte that makes an escape behind a backslash: ", \, /, b, f, n, r or t
abbrev pub is_single : ℕ → Bool
is_single byte = (byte == 34) || ((byte == 92)
    || ((byte == 47) || ((byte == 98) || ((byte == 102) || ((byte == 110) || ((byte == 114) || (byte == 116)))))))

-- four hexadecimal digits stand in front
abbrev pub is_quad : List ℕ → Bool
is_quad [] = false
is_quad (a ∷ []) = false
is_quad (a ∷ b ∷ []) = false
is_quad (a ∷ b ∷ c ∷ []) = false
is_quad (a ∷ b ∷ c ∷ d ∷ more) = is_hex a && (is_hex b && (is_hex c && is_hex d))

-- an escape stands in front: a backslash, and one of these bytes, or u and four hexadecimal digits
abbrev pub is_escape : List ℕ → Bool
is_escape [] = false
is_escape (first ∷ []) = false
is_escape (first ∷ second ∷ more) = (first == 92) && (is_single second || ((second == 117) && is_quad more))

-- a hexadecimal digit that is 8 or more
abbrev pub from_eight : ℕ → Bool
from_eight byte = (byte == 56) || ((byte == 57) || nat_le 65 byte)

-- the escape of half of a character stands in front: \ud800 to \udfff
abbrev pub is_half : List ℕ → Bool
is_half [] = false
is_half (a ∷ []) = false
is_half (a ∷ b ∷ []) = false
is_half (a ∷ b ∷ c ∷ []) = false
is_half (a ∷ b ∷ c ∷ d ∷ more) = is_escape (a ∷ b ∷ c ∷ d ∷ more) && ((b == 117) && (((c == 68) || (c == 100)) && from_eight d))

-- how many bytes the escape has that stands in front
abbrev pub escape_length : List ℕ → ℕ
escape_length [] = 2
escape_length (first ∷ []) = 2
escape_length (first ∷ second ∷ more) = if second == 117 then 6 else 2

-- ---- flaws

-- what is wrong stands in front: a control character; a backslash that makes no escape; half of a character; a zero before a digit; what is no digit
abbrev pub IsFlaw : Flaw → List ℕ → Type 0
IsFlaw (Control byte) rest = (byte < 32) × (first_is byte rest ≡ true)
IsFlaw Escape rest = (first_is 92 rest ≡ true) × (is_escape rest ≡ false)
IsFlaw Half rest = is_half rest ≡ true
IsFlaw Zero rest = is_zero_led rest ≡ true
IsFlaw Digit rest = has_digit rest ≡ false
