use Rattle.std.proofs.Common.{◌≡◌, ◌<◌, ℕ, true}
use Rattle.shortening.specs.Choices.{is_among}
use Rattle.shortening.proofs.choices.numbers_to.Given as goal

abbrev pub invariant-loop-number : goal.invariant-loop-number
invariant-loop-number l = (k : ℕ) → k < l.number → is_among l.numbers.items k ≡ true
