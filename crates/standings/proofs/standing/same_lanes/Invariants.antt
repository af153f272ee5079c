use Rattle.std.proofs.Common.{ℕ, ◌<◌}
use Rattle.standings.specs.Alike.{AreSameLanes}
use Rattle.standings.proofs.standing.same_lanes.Given as goal

abbrev pub invariant-loop-lane : goal.invariant-loop-lane
invariant-loop-lane l = (lane : ℕ) → lane < l.lane → AreSameLanes lane l.turns l.others
