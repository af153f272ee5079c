use Rattle.std.proofs.Common.{◌++◌, codes}
use Rattle.std.specs.Fmt.{decimal}
use Rattle.std.proofs.lemmas.Result.{on_ok_weaker, on_err_weaker}
use Rattle.traces.proofs.TextLemmas.{prefix_before, appended, on_err}
use Rattle.traces.proofs.text.write_values.Goals as goal

pub returns-in_err-write_named-clause-err : goal.returns-in_err-write_named-clause-err
returns-in_err-write_named-clause-err c = on_err _ c.in_err-write_named.ensures.err

pub returns-in_err-write_named-2-clause-err : goal.returns-in_err-write_named-2-clause-err
returns-in_err-write_named-2-clause-err c =
    on_err _
    (prefix_before _ _ _ _ c.in_ok-write_named.ensures.ok c.in_err-write_named-2.ensures.err)

pub returns-clause-ok : goal.returns-clause-ok
returns-clause-ok c =
    let old = c.args.out.now.items in
    let first = codes " " ++ decimal c.args.before in
    let second = codes " " ++ decimal c.args.after in
    on_ok_weaker c.write_text.result
    (λ f. appended old (first ++ second) (codes "\n") _ _ (appended old first second _ _ c.in_ok-write_named.ensures.ok c.in_ok-write_named-2.ensures.ok) f)
    c.write_text.ensures.ok

pub returns-clause-err : goal.returns-clause-err
returns-clause-err c =
    on_err_weaker c.write_text.result
    (λ p. prefix_before _ _ _ _ c.in_ok-write_named.ensures.ok
    (prefix_before _ _ _ _ c.in_ok-write_named-2.ensures.ok p))
    c.write_text.ensures.err
