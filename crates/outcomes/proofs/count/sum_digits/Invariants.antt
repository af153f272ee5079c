use Rattle.std.proofs.Common.{◌+◌, length}
use Rattle.outcomes.specs.Numbers.{sum_digits}
use Rattle.outcomes.proofs.CountLemmas.{Summed}
use Rattle.outcomes.proofs.count.sum_digits.Given as goal

-- the digits so far, and those of the rest, are those of the sum
abbrev pub invariant-loop-left : goal.invariant-loop-left
invariant-loop-left l = Summed l.left l.right l.sum.items l.carry (sum_digits l.digits l.others 0)

abbrev pub decreases-loop-left : goal.decreases-loop-left
decreases-loop-left l = length l.left + length l.right
