use Rattle.std.proofs.Common.{◌≡◌, length}
use Rattle.outcomes.specs.Numbers.{AreDigits, number_of}
use Rattle.outcomes.proofs.digits.trimmed.Given as goal

-- what is left is the same number
abbrev pub invariant-loop-highest : goal.invariant-loop-highest
invariant-loop-highest l = record { digits : AreDigits l.rest; number : number_of l.rest ≡ number_of l.digits }

abbrev pub decreases-loop-highest : goal.decreases-loop-highest
decreases-loop-highest l = length l.rest
