use Rattle.std.proofs.Common.{◌≡◌, ◌≢◌, ◌∙◌, ◌++◌, ℕ, List, codes, refl, sym}
use Rattle.std.proofs.lemmas.Bool.{false≢true}
use Rattle.seqpool.specs.ActsText.{content_text, AreBytes}
use Rattle.seqpool.specs.ReadTexts.{NothingHas}
use Rattle.seqpool.proofs.Parts.{IsCut, one-cut, lacks-Without}
use Rattle.seqpool.proofs.acts_fields.read_some.Goals as goal

unworded : (text a b : List ℕ) → IsCut 32 text a b → a ≢ codes "some"
    → NothingHas (λ bytes words. AreBytes bytes × (words ≡ codes "some " ++ content_text bytes)) text
unworded text a b (cuts, one) other bytes (are, is) =
    other (one-cut 32 a b (codes "some") (content_text bytes) one (lacks-Without 32 (codes "some") refl) (sym cuts ∙ is)).0

pub returns-then-not-is_word : goal.returns-then-not-is_word
returns-then-not-is_word c =
    let other : c.in-Some.word.now ≢ codes "some" = λ same. absurd (false≢true (sym c.if-not-is_word.true ∙ c.is_word.ensures.1 same)) in
    unworded c.args.text.now c.in-Some.word.now c.in-Some.content.now c.in-Some.ensures other
