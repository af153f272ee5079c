use Rattle.std.proofs.Common.{◌≡◌, ◌∙◌, ◌+◌, ◌++◌, ℕ, List, Option, Some, codes, decimal, refl, subst, rules}
use Rattle.schedules.specs.Schedules.{bad_entry}
use Rattle.streams.specs.Saying.{Says}
use Rattle.streams.specs.Shown.{bytes_text, cut}
use Rattle.streams.proofs.SafeLines.{says_shown}
use Rattle.commandline.specs.MistakeTexts.{entry_told}
use Rattle.commandline.proofs.mistakes.write_entry.Goals as goal

pub returns : goal.returns
returns g c =
    let contents = g.W.Write.contents in
    let old = c.args.out.now in
    let before = c.in-Some.before in
    let entry = c.in-Some.entry.now in
    let bad : Some (before, entry) ≡ bad_entry c.args.schedule.now = search rules in
    let p1 = c.write_bytes.new.out in
    let p2 = c.write_bytes-2.new.out in
    let p3 = c.write_bytes-3.new.out in
    let p4 = c.write_cut.new.out in
    let p5 = c.write_bytes-4.new.out in
    let number = decimal (before + 1) in
    let two : Says contents p1 p2 (bytes_text number) =
    subst (λ (text : List ℕ). Says contents p1 p2 (bytes_text text)) (c.as_bytes.ensures.value ∙ c.format.ensures.text) c.write_bytes-2.ensures in
    let begun = codes "; entry " ++ number in
    let said = begun ++ codes " is \"" in
    let first = says_shown contents old p1 p2 (codes "; entry ") number begun c.write_bytes.ensures two refl in
    let second = says_shown contents old p2 p3 begun (codes " is \"") said first c.write_bytes-3.ensures refl in
    let named = said ++ cut entry in
    let third = says_shown contents old p3 p4 said (cut entry) named second c.write_cut.ensures refl in
    let fourth = says_shown contents old p4 p5 named (codes "\"") (named ++ codes "\"") third c.write_bytes-4.ensures refl in
    subst (λ (found : Option (ℕ × List ℕ)). Says contents old p5 (bytes_text (entry_told found))) bad fourth
