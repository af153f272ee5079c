use Rattle.std.proofs.Common.{length}
use Rattle.standings.specs.Behind.{Share}
use Rattle.standings.proofs.contents.same_contents.Given as goal

abbrev pub invariant-loop-turn : goal.invariant-loop-turn
invariant-loop-turn l = Share l.turns l.others l.rest → Share l.turns l.others l.turns

abbrev pub decreases-loop-turn : goal.decreases-loop-turn
decreases-loop-turn l = length l.rest
