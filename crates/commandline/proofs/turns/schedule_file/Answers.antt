use Rattle.std.proofs.Common.{◌≡◌, ◌∙◌, Bool, false, Some, codes, cond, sym, ap, arith}
use Rattle.std.proofs.lemmas.Str.Pattern.{strip_prefix_char}
use Rattle.std.specs.Str.{bytes_eq}
use Rattle.clap.specs.Lexer.{strip_byte}
use Rattle.clap.proofs.LexerLemmas.{strip_byte-from}
use Rattle.commandline.proofs.turns.schedule_file.Goals as goal

pub returns : goal.returns
returns c =
    let text = c.args.text.now in
    let stripped = strip_byte-from 64 text c.strip_prefix.result (strip_prefix_char 64 text c.strip_prefix.result c.strip_prefix.ensures.cases (omega arith)) in
    let other : bytes_eq text (codes "-") ≡ false = sym c.eq.ensures ∙ c.if-eq.false in
    stripped ∙ sym (ap (λ (b : Bool). cond b (Some text) (strip_byte 64 text)) other)
