use Rattle.std.proofs.Common.{◌≡◌, ◌++◌, length}
use Rattle.outcomes.specs.Numbers.{AreDigits, digits_told}
use Rattle.outcomes.proofs.digits.write_digits.Given as goal

-- the text so far, and that of the digits that are left
abbrev pub invariant-loop-highest : goal.invariant-loop-highest
invariant-loop-highest l = record { digits : AreDigits l.rest; told : l.text.items ++ digits_told l.rest ≡ l.fn.text.items ++ digits_told l.digits }

abbrev pub decreases-loop-highest : goal.decreases-loop-highest
decreases-loop-highest l = length l.rest
