use Rattle.std.proofs.Common.{length}
use Rattle.traces.specs.Lawful.{first_words}
use Rattle.traces.specs.TurnLaws.{all_steps}
use Rattle.standings.specs.Behind.{words_behind, AgreeOn}
use Rattle.standings.proofs.words.agree_within.Given as goal

abbrev pub invariant-loop-turn : goal.invariant-loop-turn
invariant-loop-turn l =
    AgreeOn (words_behind first_words l.turns) (words_behind first_words l.others) (all_steps l.rest)
    → AgreeOn (words_behind first_words l.turns) (words_behind first_words l.others) (all_steps l.within)

abbrev pub decreases-loop-turn : goal.decreases-loop-turn
decreases-loop-turn l = length l.rest
