use Rattle.std.proofs.Common.{◌≡◌, ◌∙◌, ℕ, ap}
use Rattle.std.proofs.lemmas.Result.{IfOk-weaker}
use Rattle.keybits.specs.Words.{state_bits, state_in, count_in}
use Rattle.poolprogram.specs.WordTexts.{life_line, word_line}
use Rattle.poolprogram.proofs.word.describe_word.Goals as goal

pub returns : goal.returns
returns c =
    let life = c.of_word-life.result in
    let word = c.args.word in
    let said : life_line (state_bits life.state) life.count life.generation ≡ word_line word =
    ap (λ (n : ℕ). life_line n life.count life.generation) c.of_word-life.ensures.state
    ∙ ap (λ (n : ℕ). life_line (state_in word) n life.generation) c.of_word-life.ensures.count
    ∙ ap (λ (n : ℕ). life_line (state_in word) (count_in word) n) c.of_word-life.ensures.generation in
    IfOk-weaker c.life_line.result _ _ (λ line is. is ∙ said) c.life_line.ensures
