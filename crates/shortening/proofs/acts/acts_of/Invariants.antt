use Rattle.std.proofs.Common.{◌≡◌, ◌++◌, drop}
use Rattle.traces.specs.TurnLaws.{all_acts}
use Rattle.shortening.proofs.acts.acts_of.Given as goal

-- the acts so far, and those of the rest, are those of all turns
abbrev pub invariant-loop-turn : goal.invariant-loop-turn
invariant-loop-turn l = l.acts.items ++ all_acts (drop l.turn-index l.turns) ≡ all_acts l.turns
