-- It is still the same lane.
use Rattle.std.proofs.Common.{◌≡◌}
use Rattle.pooltests.proofs.test_threads.fight_all.Given as goal

abbrev pub invariant-loop : goal.invariant-loop
invariant-loop g l = l.seat.lane.number ≡ l.initial.seat.lane.number
