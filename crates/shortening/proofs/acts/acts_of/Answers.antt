use Rattle.std.proofs.Common.{◌∙◌, ◌+◌, ◌++◌, ◌∷◌, List, drop, sym, ap, append_assoc}
use Rattle.std.proofs.lemmas.List.{at_drop_more}
use Rattle.seqpool.specs.declared.act.Act.{Act}
use Rattle.traces.specs.TurnLaws.{all_acts}
use Rattle.traces.specs.declared.trace.Turn.{Turn}
use Rattle.shortening.proofs.acts.acts_of.Goals as goal

pub loop-turn-preserved : goal.loop-turn-preserved
loop-turn-preserved c =
    let at = c.loop-turn in
    let turn = c.turn-item.result in
    let rest = drop (at.turn-index + 1) c.args.turns.now in
    ap (λ (acts : List Act). acts ++ all_acts rest) c.in_ok-push_act.ensures
    ∙ append_assoc at.acts.items _ (all_acts rest)
    ∙ ap (λ (more : List Act). at.acts.items ++ more)
    (ap (λ (t : Turn). all_acts (t ∷ rest)) c.turn-item.is ∙ sym (at_drop_more all_acts c.args.turns.now at.turn-index turn c.loop-turn-test.true))
    ∙ at.invariant
