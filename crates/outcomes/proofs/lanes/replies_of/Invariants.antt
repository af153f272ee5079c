use Rattle.std.proofs.Common.{◌≡◌, ◌++◌, drop}
use Rattle.traces.specs.TurnLaws.{turns_of, all_replies}
use Rattle.outcomes.proofs.lanes.replies_of.Given as goal

-- the replies so far, and those of the rest, are those of all
abbrev pub invariant-loop-turn : goal.invariant-loop-turn
invariant-loop-turn l =
    l.replies ++ all_replies (turns_of l.lane (drop l.turn-index l.turns)) ≡ all_replies (turns_of l.lane l.turns)
