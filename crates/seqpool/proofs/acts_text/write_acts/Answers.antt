use Rattle.std.proofs.Common.{ℕ, List, ◌++◌, ◌∙◌, string_bytes, subst, ap, arith}
use Rattle.std.proofs.lemmas.List.{take_all}
use Rattle.seqpool.specs.declared.act.Act.{Act}
use Rattle.seqpool.specs.ActsText.{IsTextOf}
use Rattle.seqpool.proofs.WrittenLines.{text-more}
use Rattle.seqpool.proofs.acts_text.write_acts.Goals as goal

pub loop-act-preserved : goal.loop-act-preserved
loop-act-preserved c =
    text-more c.args.shape.now c.args.acts.now c.loop-act.act-index c.act-item.result (string_bytes c.loop-act.text) (string_bytes c.write_act.new.text)
    c.loop-act-test.true c.act-item.is c.loop-act.invariant (c.in_ok-write_act.ensures {u = tt})

pub returns-clause-ok : goal.returns-clause-ok
returns-clause-ok c =
    let all = subst (λ (acts : List Act). IsTextOf c.args.shape.now acts (string_bytes c.loop-act.text)) (take_all c.loop-act.act-index c.args.acts.now (omega arith)) c.loop-act.invariant in
    let added = c.in_ok-extend_from_slice.ensures {u = tt} in
    (string_bytes c.loop-act.text, all, added.items ∙ ap (λ (text : List ℕ). c.args.out.now.items ++ text) c.as_bytes.ensures.value)
