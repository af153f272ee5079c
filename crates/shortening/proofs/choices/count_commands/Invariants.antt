use Rattle.std.proofs.Common.{◌≡◌, ◌+◌, drop}
use Rattle.shortening.specs.Choices.{commands_in}
use Rattle.shortening.proofs.choices.count_commands.Given as goal

abbrev pub invariant-loop-script : goal.invariant-loop-script
invariant-loop-script l = l.count + commands_in (drop l.script-index l.scripts) ≡ commands_in l.scripts
