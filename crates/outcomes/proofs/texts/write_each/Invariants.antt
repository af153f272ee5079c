use Rattle.std.proofs.Common.{◌≡◌, ◌++◌, take}
use Rattle.std.specs.List.{flat_map}
use Rattle.outcomes.specs.Texts.{outcome_text}
use Rattle.outcomes.proofs.texts.write_each.Given as goal

abbrev pub invariant-loop-outcome : goal.invariant-loop-outcome
invariant-loop-outcome l = l.text.items ≡ l.fn.text.items ++ flat_map outcome_text (take l.outcome-index l.outcomes)
