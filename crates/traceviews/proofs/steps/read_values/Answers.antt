use Rattle.std.proofs.Common.{rules, ◌≡◌, None}
use Rattle.std.proofs.lemmas.Option.{MatchOption-at_none}
use Rattle.traceviews.proofs.LineRefusals.{values-uncut, values-no_before, values-no_after}
use Rattle.traceviews.proofs.steps.read_values.Goals as goal

pub returns-in_default : goal.returns-in_default
returns-in_default c =
    let none : c.cut.result ≡ None = search rules in
    values-uncut c.args.text.now (MatchOption-at_none _ _ none c.cut.ensures)

pub returns-in_default-read_key : goal.returns-in_default-read_key
returns-in_default-read_key c =
    let none : c.read_key.result ≡ None = search rules in
    values-no_before c.args.text.now c.in-Some.before.now c.in-Some.after.now c.in-Some.ensures
    (MatchOption-at_none _ _ none c.read_key.ensures)

pub returns-in_default-read_key-2 : goal.returns-in_default-read_key-2
returns-in_default-read_key-2 c =
    let none : c.read_key-2.result ≡ None = search rules in
    values-no_after c.args.text.now c.in-Some.before.now c.in-Some.after.now c.in-Some.ensures
    (MatchOption-at_none _ _ none c.read_key-2.ensures)
