-- The words of a table before the first step, one lifecycle word after another.
use Rattle.std.proofs.Common.{Bool, true, false, cond, ◌≡◌, ℕ, ◌+◌, ◌*◌, ◌<◌, ◌≤◌, List, length, slice_index, slice_set, ap, ◌∙◌, arith, ⊎_elim, get_or-set_other, get_or-set_same}
use Rattle.std.proofs.lemmas.Bool.{cases_Bool}
use mathlib.Core.Logic.{dite}
use native.Mathlib.Decide.{ℕ_discrete}
use Rattle.keybits.specs.declared.shape.Shape.{Shape}
use Rattle.keybits.specs.declared.step.Word.TheVariants.{Life, Stack}
use Rattle.keybits.specs.Words.{fresh_word}
use Rattle.steplaws.specs.MomentLaws.{AreFirst}
use Rattle.poolsteps.specs.declared.find.TheConstants.{LIVES_START}
use Rattle.poolsteps.specs.Layout.{slot_start, slot_row, word_count, has_row, bits_index, index_in, has_word, words_in}
use Rattle.poolsteps.proofs.LayoutLemmas.{value-is, value-out, bits-is}
use Rattle.poolsteps.proofs.SlotLemmas.{in-row}

-- so many words from where the lifecycle words begin are those of the start, and those behind the rows are 0
pub record AreFirstTo (z : Shape) (count : ℕ) (words : List ℕ) : Type 0 where
  pub life : (start : ℕ) → start < count → slice_index words (LIVES_START + start) ≡ fresh_word
  pub stack : (index : ℕ) → LIVES_START + 2 * slot_row z ≤ index → slice_index words index ≡ 0

-- the next word gets its value
pub first-more : (z : Shape) (words : List ℕ) → length words ≡ word_count z → (start : ℕ) → start < slot_row z
    → AreFirstTo z start words → AreFirstTo z (start + 1) (slice_set words (LIVES_START + start) fresh_word)
first-more z words count start low first = record {
  life = λ other below. dite (ℕ_discrete other start)
      (λ (e : other ≡ start). ap (λ (n : ℕ). slice_index (slice_set words (LIVES_START + start) fresh_word) (LIVES_START + n)) e
      ∙ get_or-set_same words (LIVES_START + start) fresh_word 0 (omega (arith, count, low)))
      (λ apart. get_or-set_other words (LIVES_START + start) (LIVES_START + other) fresh_word 0 (λ same. apart (omega (arith, same)))
      ∙ first.life other (omega (arith, below, apart)));
  stack = λ index above. get_or-set_other words (LIVES_START + start) index fresh_word 0 (λ same. absurd (omega (arith, same, above, low))) ∙ first.stack index above;
}

-- all have theirs
pub first-all : (z : Shape) (words : List ℕ) → AreFirstTo z (slot_row z) words → AreFirst z (words_in z words)
first-all z words first = record {
  life = λ place inside. value-is z words (Life place) inside ∙ first.life (slot_start z place) (in-row z place inside);
  stack = λ shard lane. ⊎_elim
      (λ is. value-is z words (Stack shard lane) is ∙ first.stack (index_in z (Stack shard lane)) (omega arith))
      (λ isnt. value-out z words (Stack shard lane) isnt)
      (cases_Bool (has_word z (Stack shard lane)));
  bits = λ shard row. ⊎_elim
      (λ (is : has_row z shard row ≡ true). bits-is z words shard row is ∙ first.stack (bits_index z shard row) (omega arith))
      (λ (isnt : has_row z shard row ≡ false). ap (λ (b : Bool). cond b (slice_index words (bits_index z shard row)) 0) isnt)
      (cases_Bool (has_row z shard row));
}
