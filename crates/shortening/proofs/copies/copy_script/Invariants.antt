use Rattle.std.proofs.Common.{◌≡◌, take}
use Rattle.shortening.proofs.copies.copy_script.Given as goal

abbrev pub invariant-loop-command : goal.invariant-loop-command
invariant-loop-command l = l.copies.items ≡ take l.command-index l.commands
