use Rattle.std.proofs.Common.{◌++◌, ◌∙◌, List, ℕ, codes, decimal, refl, subst}
use Rattle.streams.specs.Saying.{Says}
use Rattle.streams.proofs.Sayings.{says_more}
use Rattle.poolview.specs.Faults.{wrong_text}
use Rattle.poolview.proofs.fault.write_stray.Goals as goal

pub returns : goal.returns
returns g c =
    let contents = g.E.Write.contents in
    let old = c.args.errors.now in
    let p1 = c.write_text.new.out in
    let p2 = c.write_text-2.new.out in
    let p3 = c.write_text-3.new.out in
    let p4 = c.write_wrong.new.errors in
    let number = decimal c.args.stray.number in
    let wrong = wrong_text c.args.stray.wrong in
    let begun = codes "line " ++ number in
    let marked = begun ++ codes ": " in
    let said = marked ++ wrong in
    let two : Says contents p1 p2 number = subst (λ (text : List ℕ). Says contents p1 p2 text) (c.as_bytes.ensures.value ∙ c.format.ensures.text) c.write_text-2.ensures in
    let first = says_more contents old p1 p2 (codes "line ") number begun c.write_text.ensures two refl in
    let second = says_more contents old p2 p3 begun (codes ": ") marked first c.write_text-3.ensures refl in
    let third = says_more contents old p3 p4 marked wrong said second c.write_wrong.ensures refl in
    says_more contents old p4 c.write_text-4.new.out said (codes "\n") (said ++ codes "\n") third c.write_text-4.ensures refl
