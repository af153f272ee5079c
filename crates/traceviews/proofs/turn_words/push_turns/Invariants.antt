use Rattle.std.proofs.Common.{take, false}
use Rattle.std.specs.List.{flat_map}
use Rattle.traceviews.specs.Pages.{Grows}
use Rattle.traceviews.proofs.TurnWords.{turn_words}
use Rattle.traceviews.proofs.turn_words.push_turns.Given as goal

abbrev pub invariant-loop-turn : goal.invariant-loop-turn
invariant-loop-turn l = Grows l.fn.out l.out (flat_map (turn_words false) (take l.turn-index l.turns))
