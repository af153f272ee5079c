use Rattle.std.proofs.Common.{◌≡◌, drop}
use Rattle.shortening.specs.Choices.{is_among}
use Rattle.shortening.proofs.choices.is_among.Given as goal

-- the number is among those that are left, where it is among all
abbrev pub invariant-loop-other : goal.invariant-loop-other
invariant-loop-other l = is_among (drop l.other-index l.numbers) l.number ≡ is_among l.numbers l.number
