use Rattle.std.proofs.Common.{◌++◌, ◌∙◌, List, ℕ, codes, refl, subst}
use Rattle.streams.specs.Reasons.{unwritable_text}
use Rattle.streams.specs.Saying.{Says}
use Rattle.streams.specs.Shown.{bytes_text}
use Rattle.streams.proofs.SafeLines.{says_shown}
use Rattle.streams.proofs.Sayings.{says_more}
use Rattle.poolview.proofs.Safe.{safe-output}
use Rattle.poolview.proofs.explanation.explain_output.Goals as goal

pub returns-clause-says : goal.returns-clause-says
returns-clause-says g c =
    let contents = g.E.Write.contents in
    let old = c.args.errors.now in
    let p1 = c.write_bytes.new.out in
    let p2 = c.write_bytes-2.new.out in
    let reason = unwritable_text c.args.why in
    let all = codes "standard output can't be written: " ++ reason in
    let two : Says contents p1 p2 (bytes_text reason) = subst (λ (text : List ℕ). Says contents p1 p2 (bytes_text text)) (c.as_bytes.ensures.value ∙ c.text.ensures) c.write_bytes-2.ensures in
    let first = says_shown contents old p1 p2 (codes "standard output can't be written: ") reason all c.write_bytes.ensures two refl in
    says_more contents old p2 c.write_text.new.out (bytes_text all) (codes "\n") (bytes_text all ++ codes "\n") first c.write_text.ensures refl

pub returns-clause-safe : goal.returns-clause-safe
returns-clause-safe g c = safe-output c.args.why
