use Rattle.std.proofs.Common.{◌++◌, codes}
use Rattle.std.proofs.lemmas.Result.{on_ok_weaker, on_err_weaker}
use Rattle.traces.proofs.TextLemmas.{prefix_before, appended, on_err}
use Rattle.traces.proofs.text.write_field.Goals as goal

pub returns-in_err-write_text-clause-err : goal.returns-in_err-write_text-clause-err
returns-in_err-write_text-clause-err c = on_err _ c.in_err-write_text.ensures.err

pub returns-in_err-write_text-2-clause-err : goal.returns-in_err-write_text-2-clause-err
returns-in_err-write_text-2-clause-err c = on_err _ (prefix_before _ _ _ _ c.in_ok-write_text.ensures.ok c.in_err-write_text-2.ensures.err)

pub returns-clause-ok : goal.returns-clause-ok
returns-clause-ok c =
    let old = c.args.out.now.items in
    let text = c.args.text.now in
    on_ok_weaker c.write_text-3.result
    (λ f. appended old (codes " " ++ text) (codes " ") _ _ (appended old (codes " ") text _ _ c.in_ok-write_text.ensures.ok c.in_ok-write_text-2.ensures.ok) f)
    c.write_text-3.ensures.ok

pub returns-clause-err : goal.returns-clause-err
returns-clause-err c =
    on_err_weaker c.write_text-3.result
    (λ p. prefix_before _ _ _ _ c.in_ok-write_text.ensures.ok
    (prefix_before _ _ _ _ c.in_ok-write_text-2.ensures.ok p))
    c.write_text-3.ensures.err
