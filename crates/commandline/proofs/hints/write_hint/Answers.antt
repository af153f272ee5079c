use Rattle.std.proofs.Common.{◌++◌, ℕ, List, codes, refl, subst}
use Rattle.streams.specs.Saying.{Says}
use Rattle.streams.specs.Shown.{bytes_text}
use Rattle.streams.proofs.Sayings.{says_more}
use Rattle.streams.proofs.SafeLines.{says_shown}
use Rattle.commandline.specs.Readings.{text_of}
use Rattle.commandline.specs.Hints.{file_told, command_told, hint_told}
use Rattle.commandline.proofs.hints.write_hint.Goals as goal

pub returns : goal.returns
returns g c =
    let contents = g.W.Write.contents in
    let old = c.args.out.now in
    let program = c.args.program.now in
    let file = text_of c.args.file in
    let command = text_of c.args.command in
    let p1 = c.write_bytes.new.out in
    let p2 = c.write_bytes-2.new.out in
    let p3 = c.write_file.new.out in
    let p4 = c.write_bytes-3.new.out in
    let p5 = c.write_bytes-4.new.out in
    let p6 = c.write_command.new.out in
    let p7 = c.write_bytes-5.new.out in
    let t2 = program ++ codes ": " in
    let t3 = t2 ++ file_told file in
    let t4 = t3 ++ codes "read on in \"" in
    let t5 = t4 ++ program in
    let t6 = t5 ++ command_told command in
    let told = hint_told program command file in
    let one : Says contents old p1 (bytes_text program) = subst (λ (text : List ℕ). Says contents old p1 (bytes_text text)) c.as_bytes.ensures.value c.write_bytes.ensures in
    let five : Says contents p4 p5 (bytes_text program) = subst (λ (text : List ℕ). Says contents p4 p5 (bytes_text text)) c.as_bytes-2.ensures.value c.write_bytes-4.ensures in
    let s2 = says_shown contents old p1 p2 program (codes ": ") t2 one c.write_bytes-2.ensures refl in
    let s3 = says_shown contents old p2 p3 t2 (file_told file) t3 s2 c.write_file.ensures refl in
    let s4 = says_shown contents old p3 p4 t3 (codes "read on in \"") t4 s3 c.write_bytes-3.ensures refl in
    let s5 = says_shown contents old p4 p5 t4 program t5 s4 five refl in
    let s6 = says_shown contents old p5 p6 t5 (command_told command) t6 s5 c.write_command.ensures refl in
    let s7 = says_shown contents old p6 p7 t6 (codes " --help\"") told s6 c.write_bytes-5.ensures refl in
    says_more contents old p7 c.write_text.new.out (bytes_text told) (codes "\n") (bytes_text told ++ codes "\n") s7 c.write_text.ensures refl
