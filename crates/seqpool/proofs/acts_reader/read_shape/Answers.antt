use Rattle.std.proofs.Common.{◌≢◌, ◌∙◌, codes, sym}
use Rattle.std.proofs.lemmas.Bool.{false≢true}
use Rattle.seqpool.proofs.ShapeTexts.{shape-unworded}
use Rattle.seqpool.proofs.acts_reader.read_shape.Goals as goal

pub returns-then-not-is_word : goal.returns-then-not-is_word
returns-then-not-is_word c =
    let other : c.in-Some.word.now ≢ codes "shape" = λ same. absurd (false≢true (sym c.if-not-is_word.true ∙ c.is_word.ensures.1 same)) in
    shape-unworded c.args.line.now c.in-Some.word.now c.in-Some.numbers.now c.in-Some.ensures other
