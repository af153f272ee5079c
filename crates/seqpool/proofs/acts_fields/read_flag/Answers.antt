use Rattle.std.proofs.Common.{◌≡◌, ◌≢◌, ◌∙◌, ℕ, List, Bool, true, false, codes, sym, arith}
use Rattle.std.proofs.lemmas.Bool.{false≢true}
use Rattle.std.proofs.lemmas.Fmt.{decimal_digit}
use Rattle.seqpool.specs.ActsText.{flag_text}
use Rattle.seqpool.proofs.acts_fields.read_flag.Goals as goal

no-flag : (text : List ℕ) → text ≢ codes "1" → text ≢ codes "0" → (with_ref : Bool) → text ≡ flag_text with_ref → ⊥
no-flag text not_one not_zero true is = not_one (is ∙ decimal_digit 1 (omega arith))
no-flag text not_one not_zero false is = not_zero (is ∙ decimal_digit 0 (omega arith))

pub returns-then-is_word : goal.returns-then-is_word
returns-then-is_word c = c.is_word.ensures.0 c.if-is_word.true ∙ sym (decimal_digit 1 (omega arith))

pub returns-then-is_word-2 : goal.returns-then-is_word-2
returns-then-is_word-2 c = c.is_word-else-is_word.ensures.0 c.if-is_word-2.true ∙ sym (decimal_digit 0 (omega arith))

pub returns-else-is_word-2 : goal.returns-else-is_word-2
returns-else-is_word-2 c =
    let not_one : c.args.text.now ≢ codes "1" = λ same. absurd (false≢true (sym c.if-is_word.false ∙ c.is_word.ensures.1 same)) in
    let not_zero : c.args.text.now ≢ codes "0" = λ same. absurd (false≢true (sym c.if-is_word-2.false ∙ c.is_word-else-is_word.ensures.1 same)) in
    no-flag c.args.text.now not_one not_zero
