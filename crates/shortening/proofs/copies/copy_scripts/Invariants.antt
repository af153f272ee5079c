use Rattle.std.proofs.Common.{◌≡◌, take}
use Rattle.shortening.proofs.copies.copy_scripts.Given as goal

abbrev pub invariant-loop-script : goal.invariant-loop-script
invariant-loop-script l = l.copies.items ≡ take l.script-index l.scripts
