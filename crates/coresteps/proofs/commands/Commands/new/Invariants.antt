-- The rows have the writes so far.
use Rattle.std.proofs.Common.{take}
use Rattle.coresteps.specs.Writes.{AreWrites}
use Rattle.coresteps.proofs.commands.Commands.new.Given as goal

abbrev pub invariant-loop-index : goal.invariant-loop-index
invariant-loop-index l = AreWrites (take l.index l.fn.script) l.writes.items
