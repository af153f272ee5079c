use Rattle.std.proofs.Common.{◌↔◌, ℕ, List, IsTrue, subst}
use Rattle.shortening.specs.Words.{StandsIn}
use Rattle.shortening.proofs.ReplayLemmas.{told}
use Rattle.shortening.proofs.printing.is_shown.Goals as goal

pub returns-clause-ok : goal.returns-clause-ok
returns-clause-ok c =
    let text = c.in_ok-text.text.items in
    let word = c.args.word.now in
    let found = c.stands_in.result in
    let in_text = subst (λ (t : List ℕ). IsTrue found ↔ StandsIn c.as_bytes.result.now t) c.as_slice.ensures.value c.stands_in.ensures in
    let means = subst (λ (w : List ℕ). IsTrue found ↔ StandsIn w text) c.as_bytes.ensures.value in_text in
    told c.args.shape.now c.args.scripts.now c.args.decoded word c.args.schedule.now text found c.in_ok-text.ensures.ok means
