use Rattle.scripts.specs.ScriptFiles.{command_of}
use Rattle.scripts.proofs.Sequences.{IsReadUpTo}
use Rattle.scripts.proofs.commands.read_lines.Given as goal

abbrev pub invariant-loop-line : goal.invariant-loop-line
invariant-loop-line l = IsReadUpTo (command_of l.lane) l.commands.items l.line l.lines
