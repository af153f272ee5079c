use Rattle.std.proofs.Common.{take}
use Rattle.outcomes.specs.Outcomes.{LackReplies}
use Rattle.outcomes.proofs.table.find.Given as goal

abbrev pub invariant-loop-i : goal.invariant-loop-i
invariant-loop-i l = LackReplies l.replies (take l.i l.table)
