use Rattle.std.proofs.Common.{◌++◌, ◌-◌, ◌∙◌, List, ℕ, codes, decimal, refl, ap, subst}
use Rattle.streams.specs.Lines.{line_at}
use Rattle.streams.specs.Saying.{Says}
use Rattle.streams.specs.Shown.{bytes_text, cut}
use Rattle.streams.proofs.SafeLines.{says_shown}
use Rattle.streams.proofs.Sayings.{says_more}
use Rattle.poolview.proofs.Safe.{safe-line}
use Rattle.poolview.proofs.explanation.explain_line.Goals as goal

pub returns-clause-says : goal.returns-clause-says
returns-clause-says g c =
    let contents = g.E.Write.contents in
    let bytes = c.args.bytes.now in
    let old = c.args.errors.now in
    let p1 = c.write_bytes.new.out in
    let p2 = c.write_bytes-2.new.out in
    let p3 = c.write_bytes-3.new.out in
    let p4 = c.write_cut.new.out in
    let p5 = c.write_bytes-4.new.out in
    let number = decimal c.args.number in
    let line = cut (line_at (c.args.number - 1) bytes) in
    let begun = codes "line " ++ number in
    let marked = begun ++ codes ": \"" in
    let said = marked ++ line in
    let wanted = c.args.what.now in
    let all = said ++ wanted in
    let two : Says contents p1 p2 (bytes_text number) = subst (λ (text : List ℕ). Says contents p1 p2 (bytes_text text)) (c.as_bytes.ensures.value ∙ c.format.ensures.text) c.write_bytes-2.ensures in
    let same = c.line_at.ensures ∙ ap (λ (n : ℕ). line_at n bytes) c.saturating_sub.ensures in
    let four : Says contents p3 p4 (bytes_text line) = subst (λ (text : List ℕ). Says contents p3 p4 (bytes_text (cut text))) same c.write_cut.ensures in
    let first = says_shown contents old p1 p2 (codes "line ") number begun c.write_bytes.ensures two refl in
    let second = says_shown contents old p2 p3 begun (codes ": \"") marked first c.write_bytes-3.ensures refl in
    let third = says_shown contents old p3 p4 marked line said second four refl in
    let fourth = says_shown contents old p4 p5 said wanted all third c.write_bytes-4.ensures refl in
    says_more contents old p5 c.write_text.new.out (bytes_text all) (codes "\n") (bytes_text all ++ codes "\n") fourth c.write_text.ensures refl

pub returns-clause-safe : goal.returns-clause-safe
returns-clause-safe g c = safe-line c.args.what.now c.args.number c.args.bytes.now c.requires
