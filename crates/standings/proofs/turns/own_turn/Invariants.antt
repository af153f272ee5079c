use Rattle.std.proofs.Common.{◌≡◌, ◌≤◌, length}
use Rattle.traces.specs.TurnLaws.{turns_of}
use Rattle.standings.proofs.turns.own_turn.Given as goal

abbrev pub invariant-loop-turn : goal.invariant-loop-turn
invariant-loop-turn l = (turns_of l.lane l.rest ≡ turns_of l.lane l.turns) × (length l.rest ≤ length l.turns)

abbrev pub decreases-loop-turn : goal.decreases-loop-turn
decreases-loop-turn l = length l.rest
