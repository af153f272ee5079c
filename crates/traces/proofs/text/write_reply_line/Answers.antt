use Rattle.std.proofs.Common.{◌≡◌, ◌++◌, ◌∙◌, ℕ, ap, codes}
use Rattle.std.specs.Fmt.{decimal}
use Rattle.std.proofs.lemmas.Result.{on_ok_weaker, on_err_weaker}
use Rattle.traces.specs.Text.{reply_text}
use Rattle.traces.proofs.TextLemmas.{prefix_before, appended, on_err}
use Rattle.traces.proofs.text.write_reply_line.Goals as goal

pub returns-in_err-write_number-clause-err : goal.returns-in_err-write_number-clause-err
returns-in_err-write_number-clause-err c = on_err _ c.in_err-write_number.ensures.err

pub returns-in_err-write_text-clause-err : goal.returns-in_err-write_text-clause-err
returns-in_err-write_text-clause-err c = on_err _ (prefix_before _ _ _ _ c.in_ok-write_number.ensures.ok c.in_err-write_text.ensures.err)

pub returns-in_err-write_reply-clause-err : goal.returns-in_err-write_reply-clause-err
returns-in_err-write_reply-clause-err c =
    on_err _
    (prefix_before _ _ _ _ c.in_ok-write_number.ensures.ok
    (prefix_before _ _ _ _ c.in_ok-write_text.ensures.ok c.in_err-write_reply.ensures.err))

pub returns-clause-ok : goal.returns-clause-ok
returns-clause-ok c =
    let old = c.args.out.now.items in
    let lane = decimal c.args.lane in
    let reply = reply_text c.args.reply.now in
    let number : c.write_number.new.out.items ≡ old ++ lane = c.in_ok-write_number.ensures.ok ∙ ap (λ (n : ℕ). old ++ decimal n) c.from.ensures in
    on_ok_weaker c.write_text-2.result
    (λ f. appended old (lane ++ codes " = " ++ reply) (codes "\n") _ _
    (appended old (lane ++ codes " = ") reply _ _ (appended old lane (codes " = ") _ _ number c.in_ok-write_text.ensures.ok) c.in_ok-write_reply.ensures.ok) f)
    c.write_text-2.ensures.ok

pub returns-clause-err : goal.returns-clause-err
returns-clause-err c =
    on_err_weaker c.write_text-2.result
    (λ p. prefix_before _ _ _ _ c.in_ok-write_number.ensures.ok
    (prefix_before _ _ _ _ c.in_ok-write_text.ensures.ok
    (prefix_before _ _ _ _ c.in_ok-write_reply.ensures.ok p)))
    c.write_text-2.ensures.err
