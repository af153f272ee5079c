use Rattle.std.proofs.Common.{◌++◌, ◌∙◌, List, ℕ, codes, decimal, refl, subst}
use Rattle.streams.specs.Saying.{Says}
use Rattle.streams.proofs.Sayings.{says_more}
use Rattle.poolview.proofs.fault.write_wrong.Goals as goal

pub returns-in-Before : goal.returns-in-Before
returns-in-Before g c =
    let contents = g.E.Write.contents in
    let old = c.args.errors.now in
    let p1 = c.write_text.new.out in
    let p2 = c.write_text-in-Before.new.out in
    let had = decimal c.in-Before.had in
    let begun = codes "before it its word is " in
    let two : Says contents p1 p2 had = subst (λ (text : List ℕ). Says contents p1 p2 text) (c.as_bytes.ensures.value ∙ c.format.ensures.text) c.write_text-in-Before.ensures in
    rw c.in-Before.is (says_more contents old p1 p2 begun had (begun ++ had) c.write_text.ensures two refl)
