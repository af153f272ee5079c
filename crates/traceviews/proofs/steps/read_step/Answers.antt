use Rattle.std.proofs.Common.{rules, ◌≡◌, None}
use Rattle.std.proofs.lemmas.Option.{MatchOption-at_none}
use Rattle.std.proofs.lemmas.Result.{err_from_is_err_and}
use Rattle.traceviews.proofs.LineRefusals.{step-uncut, step-no_word, step-no_values}
use Rattle.traceviews.proofs.steps.read_step.Goals as goal

pub returns-in_default : goal.returns-in_default
returns-in_default c =
    let none : c.cut.result ≡ None = search rules in
    step-uncut c.args.name c.args.operands.now (MatchOption-at_none _ _ none c.cut.ensures)

pub returns-in_default-read_word : goal.returns-in_default-read_word
returns-in_default-read_word c =
    let none : c.read_word.result ≡ None = search rules in
    step-no_word c.args.name c.args.operands.now c.in-Some.word.now c.in-Some.values.now c.in-Some.ensures
    (MatchOption-at_none _ _ none c.read_word.ensures)

pub returns-in_err-before : goal.returns-in_err-before
returns-in_err-before c =
    let p = err_from_is_err_and c.from_residual.result c.from_residual.ensures.1 in
    rw (p.1)
    (step-no_values c.args.name c.args.operands.now c.in-Some.word.now c.in-Some.values.now c.in-Some.ensures
    (c.in_err-before.ensures {u = tt}))
