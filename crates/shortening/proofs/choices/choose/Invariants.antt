use Rattle.std.proofs.Common.{◌≡◌, ◌+◌, ◌++◌, drop}
use Rattle.shortening.specs.Choices.{chosen_from}
use Rattle.shortening.proofs.choices.choose.Given as goal

-- those chosen so far, and those of the rest, are those of all
abbrev pub invariant-loop-command : goal.invariant-loop-command
invariant-loop-command l = record {
  counted : l.number ≡ l.from + l.command-index;
  all : l.chosen.items ++ chosen_from l.numbers l.number (drop l.command-index l.commands) ≡ chosen_from l.numbers l.from l.commands;
}
