-- The lane that was lent is as it was.
use Rattle.std.proofs.Common.{ℕ, List, Ok, refl, inr, ap, ◌∙◌}
use Rattle.poolffi.specs.Exports.{written_over}
use Rattle.poolffi.proofs.pardz_numbers.Goals as goal

pub returns-clause-calls : goal.returns-clause-calls
returns-clause-calls c =
    let told = c.write_over.ensures ∙ ap (λ (numbers : List ℕ). written_over numbers c.args.numbers.now) c.numbers.ensures in
    inr (c.in-Some.handle.now, c.in-Some.handle.now, c.in-Some.ensures.some, refl, Ok tt, refl, (refl, told))
