use Rattle.std.proofs.Common.{length}
use Rattle.standings.proofs.Going.{Going}
use Rattle.standings.proofs.lanes.same_lane.Given as goal

abbrev pub invariant-loop-turn : goal.invariant-loop-turn
invariant-loop-turn l = Going l.lane l.turns l.others l.rest l.other l.same

abbrev pub decreases-loop-turn : goal.decreases-loop-turn
decreases-loop-turn l = length l.rest
