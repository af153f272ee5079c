use Rattle.std.proofs.Common.{◌≡◌, ◌+◌, ◌++◌, drop, length}
use Rattle.shortening.specs.Choices.{chosen_scripts, commands_in}
use Rattle.shortening.proofs.choices.choose_scripts.Given as goal

-- those chosen so far, and those of the rest, are those of all
abbrev pub invariant-loop-script : goal.invariant-loop-script
invariant-loop-script l = record {
  counted : l.from + commands_in (drop l.script-index l.scripts) ≡ commands_in l.scripts;
  all : l.chosen.items ++ chosen_scripts l.numbers l.from (drop l.script-index l.scripts) ≡ chosen_scripts l.numbers 0 l.scripts;
}
