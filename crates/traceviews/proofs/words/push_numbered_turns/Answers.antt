use Rattle.std.proofs.Common.{arith}
use Rattle.traceviews.specs.Styles.{turn_words}
use Rattle.traceviews.proofs.PageLemmas.{turns_next, turns_all}
use Rattle.traceviews.proofs.words.push_numbered_turns.Goals as goal

pub loop-turn-preserved : goal.loop-turn-preserved
loop-turn-preserved c =
    let at = c.loop-turn in
    record {
      few = omega (arith, c.in-Some.ensures.shorter);
      grows = λ new rest. at.invariant.grows new
          (turns_next (turn_words c.args.style.keys) at.number at.rest.now c.in-Some.turn.now c.in-Some.behind.now at.out c.push_numbered_turn.new.out new c.in-Some.ensures c.push_numbered_turn.ensures rest);
    }

pub returns : goal.returns
returns c = c.loop-turn.invariant.grows c.loop-turn.out (turns_all (turn_words c.args.style.keys) c.loop-turn.number c.loop-turn.rest.now c.loop-turn.out c.in_default.ensures)
