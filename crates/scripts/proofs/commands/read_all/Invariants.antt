use Rattle.scripts.specs.ScriptFiles.{script_of}
use Rattle.scripts.proofs.Sequences.{IsReadUpTo}
use Rattle.scripts.proofs.commands.read_all.Given as goal

abbrev pub invariant-loop-lane : goal.invariant-loop-lane
invariant-loop-lane l = IsReadUpTo script_of l.scripts.items l.lane l.values
