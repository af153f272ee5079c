use Rattle.std.proofs.Common.{◌++◌, ◌∙◌, List, ℕ, codes, refl, subst}
use Rattle.streams.specs.Reasons.{reason_text}
use Rattle.streams.specs.Saying.{Says}
use Rattle.streams.specs.Shown.{bytes_text, cut}
use Rattle.streams.proofs.SafeLines.{says_shown}
use Rattle.streams.proofs.Sayings.{says_more}
use Rattle.poolview.proofs.Safe.{safe-file}
use Rattle.poolview.proofs.explanation.explain_file.Goals as goal

pub returns-clause-says : goal.returns-clause-says
returns-clause-says g c =
    let contents = g.E.Write.contents in
    let old = c.args.errors.now in
    let p1 = c.write_bytes.new.out in
    let p2 = c.write_cut.new.out in
    let p3 = c.write_bytes-2.new.out in
    let p4 = c.write_bytes-3.new.out in
    let path = cut c.args.path.now in
    let begun = codes "\"" ++ path in
    let said = begun ++ codes "\" can't be opened, or not read to its end: " in
    let reason = reason_text c.args.why in
    let all = said ++ reason in
    let two : Says contents p1 p2 (bytes_text path) = subst (λ (text : List ℕ). Says contents p1 p2 (bytes_text (cut text))) c.as_bytes.ensures.value c.write_cut.ensures in
    let four : Says contents p3 p4 (bytes_text reason) = subst (λ (text : List ℕ). Says contents p3 p4 (bytes_text text)) (c.as_bytes-2.ensures.value ∙ c.text.ensures) c.write_bytes-3.ensures in
    let first = says_shown contents old p1 p2 (codes "\"") path begun c.write_bytes.ensures two refl in
    let second = says_shown contents old p2 p3 begun (codes "\" can't be opened, or not read to its end: ") said first c.write_bytes-2.ensures refl in
    let third = says_shown contents old p3 p4 said reason all second four refl in
    says_more contents old p4 c.write_text.new.out (bytes_text all) (codes "\n") (bytes_text all ++ codes "\n") third c.write_text.ensures refl

pub returns-clause-safe : goal.returns-clause-safe
returns-clause-safe g c = safe-file c.args.path.now c.args.why
