use Rattle.std.proofs.Common.{◌≡◌, length}
use Rattle.steplaws.specs.Facts.{Words, value_of}
use Rattle.traces.specs.Lawful.{first_words}
use Rattle.standings.specs.Behind.{words_behind}
use Rattle.standings.proofs.words.value_after.Given as goal

abbrev pub invariant-loop-turn : goal.invariant-loop-turn
invariant-loop-turn l =
    (ws : Words) × (l.value ≡ value_of ws l.word) × (words_behind ws l.rest ≡ words_behind first_words l.turns)

abbrev pub decreases-loop-turn : goal.decreases-loop-turn
decreases-loop-turn l = length l.rest
