use Rattle.std.proofs.Common.{◌++◌, ◌∙◌, List, ℕ, codes, decimal, refl, ap, subst}
use Rattle.streams.specs.Saying.{Says}
use Rattle.streams.proofs.Sayings.{says_more}
use Rattle.poolprogram.specs.RunFaults.{run_fault_number, run_fault_name}
use Rattle.poolprogram.proofs.tasks.write_fault.Goals as goal

pub returns : goal.returns
returns g c =
    let contents = g.W.Write.contents in
    let fault = c.args.fault.now in
    let old = c.args.out.now in
    let p1 = c.write_text.new.out in
    let p2 = c.write_text-2.new.out in
    let p3 = c.write_text-3.new.out in
    let p4 = c.write_text-4.new.out in
    let number = decimal (run_fault_number fault) in
    let name = run_fault_name fault in
    let begun = codes "fault " ++ number in
    let spaced = begun ++ codes " " in
    let said = spaced ++ name in
    let digits = c.as_bytes.ensures.value ∙ c.format.ensures.text ∙ ap decimal c.number.ensures in
    let two : Says contents p1 p2 number = subst (λ (text : List ℕ). Says contents p1 p2 text) digits c.write_text-2.ensures in
    let four : Says contents p3 p4 name = subst (λ (text : List ℕ). Says contents p3 p4 text) (c.as_bytes-2.ensures.value ∙ c.name.ensures) c.write_text-4.ensures in
    let first = says_more contents old p1 p2 (codes "fault ") number begun c.write_text.ensures two refl in
    let second = says_more contents old p2 p3 begun (codes " ") spaced first c.write_text-3.ensures refl in
    let third = says_more contents old p3 p4 spaced name said second four refl in
    says_more contents old p4 c.write_text-5.new.out said (codes "\n") (said ++ codes "\n") third c.write_text-5.ensures refl
