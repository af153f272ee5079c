use Rattle.std.proofs.Common.{◌≡◌, ◌++◌, ℕ, List, Option, Some, codes, refl, subst, rules}
use Rattle.streams.specs.Saying.{Says}
use Rattle.streams.specs.Shown.{bytes_text, cut}
use Rattle.streams.proofs.SafeLines.{says_shown}
use Rattle.commandline.specs.Readings.{text_of}
use Rattle.commandline.specs.Hints.{file_told}
use Rattle.commandline.proofs.hints.write_file.Goals as goal

pub returns : goal.returns
returns g c =
    let contents = g.W.Write.contents in
    let old = c.args.out.now in
    let path = c.in-Some.path.now in
    let p1 = c.write_cut.new.out in
    let p2 = c.write_bytes.new.out in
    let is : Some path ≡ text_of c.args.file = search rules in
    let one : Says contents old p1 (bytes_text (cut path)) = subst (λ (text : List ℕ). Says contents old p1 (bytes_text (cut text))) c.as_bytes.ensures.value c.write_cut.ensures in
    let two = says_shown contents old p1 p2 (cut path) (codes ": ") (cut path ++ codes ": ") one c.write_bytes.ensures refl in
    subst (λ (file : Option (List ℕ)). Says contents old p2 (bytes_text (file_told file))) is two
