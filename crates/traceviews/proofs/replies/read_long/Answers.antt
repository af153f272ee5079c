use Rattle.std.proofs.Common.{◌∙◌, sym}
use Rattle.std.proofs.lemmas.Bool.{false≢true}
use Rattle.traceviews.proofs.LineRefusals.{long-never}
use Rattle.traceviews.proofs.replies.read_long.Goals as goal

pub returns-else-is_word-3 : goal.returns-else-is_word-3
returns-else-is_word-3 c =
    long-never c.args.word.now c.args.operand.now c.requires
    (λ same. absurd (false≢true (sym c.if-is_word.false ∙ c.is_word.ensures.1 same)))
    (λ same. absurd (false≢true (sym c.if-is_word-2.false ∙ c.is_word-else-is_word.ensures.1 same)))
    (λ same. absurd (false≢true (sym c.if-is_word-3.false ∙ c.is_word-else-is_word-2.ensures.1 same)))
