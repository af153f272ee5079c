use Rattle.std.proofs.Common.{◌≡◌, length, map, take}
use Rattle.poolprogram.proofs.half_run.counts_of.Given as goal

abbrev pub invariant-loop-script : goal.invariant-loop-script
invariant-loop-script l = l.counts.items ≡ map length (take l.script-index l.scripts)
