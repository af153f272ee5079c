use Rattle.std.proofs.Common.{◌≡◌, ◌∙◌, false, take, sym, ap, subst, arith}
use Rattle.std.specs.List.{flat_map}
use Rattle.std.proofs.lemmas.List.{take_all}
use Rattle.traceviews.specs.Pages.{Grows}
use Rattle.traceviews.proofs.TurnWords.{turn_words, turns_told}
use Rattle.traceviews.proofs.turn_words.push_turns.Goals as goal

pub returns : goal.returns
returns c =
    let turns = c.args.turns.now in
    let all : take c.loop-turn.turn-index turns ≡ turns = take_all c.loop-turn.turn-index turns (omega arith) in
    subst (Grows c.args.out.now c.loop-turn.out) (ap (flat_map (turn_words false)) all ∙ sym (turns_told false turns)) c.loop-turn.invariant
