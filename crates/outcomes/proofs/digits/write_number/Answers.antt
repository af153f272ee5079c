use Rattle.std.proofs.Common.{◌≡◌, ◌∙◌, ◌<◌, ◌++◌, ℕ, List, length, sym, ap}
use Rattle.std.proofs.lemmas.Bool.{eqb-true}
use Rattle.std.proofs.lemmas.Result.{on_ok_weaker}
use Rattle.outcomes.specs.Numbers.{number_text}
use Rattle.outcomes.proofs.DigitLemmas.{none-told, number-told, some-length}
use Rattle.outcomes.proofs.digits.write_number.Goals as goal

pub returns-then-is_empty : goal.returns-then-is_empty
returns-then-is_empty c =
    let digits = c.trimmed-digits.result.now in
    let none : length digits ≡ 0 = eqb-true (length digits) 0 (sym c.is_empty.ensures ∙ c.if-is_empty.true) in
    c.in_ok-push.ensures.items
    ∙ ap (λ (t : List ℕ). c.args.text.now.items ++ t) (sym (none-told digits none) ∙ ap number_text c.trimmed-digits.ensures.number)

pub returns : goal.returns
returns c =
    let digits = c.trimmed-digits.result.now in
    let some : 0 < length digits = some-length digits (sym c.is_empty.ensures ∙ c.if-is_empty.false) in
    let told = number-told digits c.trimmed-digits.ensures.digits c.trimmed-digits.ensures.trimmed some in
    on_ok_weaker c.write_digits.result
    (λ said. said ∙ ap (λ (t : List ℕ). c.args.text.now.items ++ t) (sym told ∙ ap number_text c.trimmed-digits.ensures.number))
    c.write_digits.ensures
