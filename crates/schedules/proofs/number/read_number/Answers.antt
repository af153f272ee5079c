use Rattle.std.proofs.Common.{rules, ◌≡◌, ◌∙◌, ◌∷◌, None, sym, ap}
use Rattle.schedules.proofs.Numbers.{bounded, bounded-stop, number_of-none}
use Rattle.schedules.proofs.number.read_number.Goals as goal

pub returns-in_err-number-clause-number : goal.returns-in_err-number-clause-number
returns-in_err-number-clause-number c =
    let left : c.from_residual.result ≡ None = search rules in
    let none : c.add_digit.result ≡ None = search rules in
    let first : c.loop-byte.rest.now ≡ c.in-Some.byte.now ∷ c.in-Some.more.now = search rules in
    left ∙ sym (number_of-none c.args.most_digits c.args.limit c.args.text.now
    (c.loop-byte.invariant.0 ∙ ap (bounded c.args.limit c.loop-byte.number) first
    ∙ bounded-stop c.args.limit c.loop-byte.number c.in-Some.byte.now c.in-Some.more.now (sym none ∙ c.add_digit.ensures)))
