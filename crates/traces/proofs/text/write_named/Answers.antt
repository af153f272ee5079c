use Rattle.std.proofs.lemmas.Result.{on_ok_weaker, on_err_weaker}
use Rattle.traces.proofs.TextLemmas.{prefix_before, appended, on_err}
use Rattle.traces.proofs.text.write_named.Goals as goal

pub returns-in_err-write_text-clause-err : goal.returns-in_err-write_text-clause-err
returns-in_err-write_text-clause-err c = on_err _ c.in_err-write_text.ensures.err

pub returns-clause-ok : goal.returns-clause-ok
returns-clause-ok c = on_ok_weaker c.write_number.result (λ f. appended _ _ _ _ _ c.in_ok-write_text.ensures.ok f) c.write_number.ensures.ok

pub returns-clause-err : goal.returns-clause-err
returns-clause-err c =
    on_err_weaker c.write_number.result
    (λ p. prefix_before _ _ _ _ c.in_ok-write_text.ensures.ok p)
    c.write_number.ensures.err
