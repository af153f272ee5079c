use Rattle.std.proofs.Common.{rules, ◌≡◌, ◌+◌, ◌∙◌, ◌∷◌, ℕ, List, None, Some, take, sym, ap, arith}
use Rattle.std.proofs.lemmas.List.{take_all, length-drop}
use Rattle.schedules.specs.Parts.{parts_of}
use Rattle.schedules.proofs.Splits.{splits-at, one-alone}
use Rattle.schedules.proofs.cut.cut.Goals as goal

pub returns-in_err-end-clause-parts : goal.returns-in_err-end-clause-parts
returns-in_err-end-clause-parts c =
    let none : c.first_of.result ≡ None = search rules in
    let left : c.from_residual.result ≡ None = search rules in
    let one = one-alone c.args.separator c.args.text.now (sym none ∙ c.first_of.ensures) in
    rw left one

pub returns-clause-parts : goal.returns-clause-parts
returns-clause-parts c =
    let text : List ℕ = c.args.text.now in
    let end : ℕ = c.in_ok-end.end in
    let found : c.first_of.result ≡ Some end = search rules in
    (splits-at c.args.separator text end (sym found ∙ c.first_of.ensures)).parts
    ∙ ap (λ (xs : List ℕ). take end text ∷ parts_of c.args.separator xs) (sym (take_all _ _ (omega (arith, length-drop (end + 1) text))))
