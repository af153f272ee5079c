use Rattle.std.specs.Prelude.{length}
use Rattle.outcomes.specs.Schedules.{IsUpTo}
use Rattle.outcomes.proofs.order.comes_before.Given as goal

-- what is told of the rest is told of the whole
abbrev pub invariant-loop-lane : goal.invariant-loop-lane
invariant-loop-lane l = record {
  before : IsUpTo l.rest l.others → IsUpTo l.schedule l.other;
  behind : IsUpTo l.others l.rest → IsUpTo l.other l.schedule;
}

abbrev pub decreases-loop-lane : goal.decreases-loop-lane
decreases-loop-lane l = length l.rest
