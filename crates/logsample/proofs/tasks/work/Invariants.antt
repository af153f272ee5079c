-- It is still the same lane.
use Rattle.std.proofs.Common.{◌≡◌}
use Rattle.logsample.proofs.tasks.work.Given as goal

abbrev pub invariant-loop-round : goal.invariant-loop-round
invariant-loop-round g l = l.seat.lane.number ≡ l.initial.seat.lane.number
