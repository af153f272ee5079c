-- Numbers of any size by their digits.
use Rattle.std.specs.List.{All}
use Rattle.std.specs.Prelude.{⊤, nat_lt, ◌<◌, ℕ, zero, suc, ◌+◌, ◌*◌, ◌/◌, ◌%◌, ◌==◌, List, [], ◌∷◌, ◌++◌, if◌then◌else◌}

-- a digit is below it
abbrev pub base : ℕ
base = 10

-- these are digits
abbrev pub AreDigits : List ℕ → Type 0
AreDigits digits = All (λ digit. digit < base) digits

-- the number of these digits, the lowest first
abbrev pub number_of : List ℕ → ℕ
number_of [] = 0
number_of (digit ∷ more) = digit + base * number_of more

-- the lowest digit; 0 of none
abbrev pub lowest : List ℕ → ℕ
lowest [] = 0
lowest (digit ∷ more) = digit

-- a last digit, where it isn't 0
abbrev pub last_carry : ℕ → List ℕ
last_carry carry = if carry == 0 then [] else carry ∷ []

-- the digits of the sum of two numbers, and of what is carried
abbrev pub sum_digits : List ℕ → List ℕ → ℕ → List ℕ
sum_digits [] [] carry = last_carry carry
sum_digits [] (digit ∷ more) carry = (digit + carry) % base ∷ sum_digits [] more ((digit + carry) / base)
sum_digits (digit ∷ more) [] carry = (digit + carry) % base ∷ sum_digits more [] ((digit + carry) / base)
sum_digits (digit ∷ more) (other ∷ others) carry =
    (digit + other + carry) % base ∷ sum_digits more others ((digit + other + carry) / base)

-- the highest digit isn't 0
abbrev pub IsTrimmed : List ℕ → Type 0
IsTrimmed [] = ⊤
IsTrimmed (digit ∷ []) = 0 < digit
IsTrimmed (digit ∷ other ∷ more) = IsTrimmed (other ∷ more)

-- digits, the lowest first, as a text has them, the highest first
abbrev pub digits_told : List ℕ → List ℕ
digits_told [] = []
digits_told (digit ∷ more) = digits_told more ++ (48 + digit) ∷ []

-- a number in decimal digits, by so many divisions at most
abbrev pub told_within : ℕ → ℕ → List ℕ
told_within zero number = []
told_within (suc k) number = (if nat_lt number 10 then [] else told_within k (number / 10)) ++ (48 + number % 10) ∷ []

-- a number of any size in decimal digits
unfoldable pub number_text : ℕ → List ℕ
number_text number = told_within (suc number) number
