use Rattle.std.proofs.Common.{◌++◌, ◌∙◌, List, ℕ, codes, refl, subst}
use Rattle.streams.specs.Saying.{Says}
use Rattle.streams.specs.Shown.{bytes_text, cut}
use Rattle.streams.proofs.Sayings.{says_more}
use Rattle.streams.proofs.SafeLines.{says_shown}
use Rattle.commandline.specs.MistakeTexts.{before_of, after_of, where_of, mistake_told}
use Rattle.commandline.proofs.MistakeLemmas.{safe-mistake}
use Rattle.commandline.proofs.mistakes.write_mistake.Goals as goal

pub returns-clause-says : goal.returns-clause-says
returns-clause-says g c =
    let contents = g.W.Write.contents in
    let mistake = c.args.mistake.now in
    let found = mistake.found.items in
    let old = c.args.out.now in
    let begun = before_of mistake.reason in
    let named = begun ++ cut found in
    let said = named ++ after_of mistake.reason in
    let p1 = c.write_bytes.new.out in
    let p2 = c.write_cut.new.out in
    let p3 = c.write_bytes-2.new.out in
    let p4 = c.write_where.new.out in
    let one : Says contents old p1 (bytes_text begun) = subst (λ (text : List ℕ). Says contents old p1 (bytes_text text)) (c.as_bytes.ensures.value ∙ c.wording.ensures.before) c.write_bytes.ensures in
    let two : Says contents p1 p2 (bytes_text (cut found)) = subst (λ (text : List ℕ). Says contents p1 p2 (bytes_text (cut text))) c.as_slice.ensures.value c.write_cut.ensures in
    let three : Says contents p2 p3 (bytes_text (after_of mistake.reason)) = subst (λ (text : List ℕ). Says contents p2 p3 (bytes_text text)) (c.as_bytes-2.ensures.value ∙ c.wording.ensures.after) c.write_bytes-2.ensures in
    let first = says_shown contents old p1 p2 begun (cut found) named one two refl in
    let second = says_shown contents old p2 p3 named (after_of mistake.reason) said first three refl in
    let third = says_shown contents old p3 p4 said (where_of mistake.reason found) (mistake_told mistake) second c.write_where.ensures refl in
    says_more contents old p4 c.write_text.new.out (bytes_text (mistake_told mistake)) (codes "\n") (bytes_text (mistake_told mistake) ++ codes "\n") third c.write_text.ensures refl

pub returns-clause-safe : goal.returns-clause-safe
returns-clause-safe g c = safe-mistake c.args.mistake.now
