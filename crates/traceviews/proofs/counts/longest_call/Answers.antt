use Rattle.std.proofs.Common.{arith}
use Rattle.traceviews.proofs.CountLemmas.{longest-next}
use Rattle.traceviews.proofs.counts.longest_call.Goals as goal
use Rattle.traceviews.proofs.counts.longest_call.Goals.{then-steps-most, else-steps-most}

pub loop-line-preserved : goal.loop-line-preserved
loop-line-preserved c = elim c.if-steps-most.branch [
  | then-steps-most w ↦
      longest-next _ _ _ _ _ _ _ _ c.loop-line-test.true c.loop-line.invariant c.line-item.is c.steps_behind-steps.ensures (omega arith)
  | else-steps-most w ↦
      longest-next _ _ _ _ _ _ _ _ c.loop-line-test.true c.loop-line.invariant c.line-item.is c.steps_behind-steps.ensures (omega arith)
]
