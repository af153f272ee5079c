-- Marks of places among a pool's words.
use Rattle.std.proofs.Common.{◌≡◌, ◌≢◌, ℕ, ◌<◌, Bool, true, cond, List, [], ◌∷◌, ◌++◌, length, slice_set, false, refl, ap, sym, ◌∙◌, subst, arith, length-set}
use Rattle.std.specs.Prelude.{slice_index_or}
use Rattle.std.proofs.lemmas.List.{get_or_read}
use mathlib.Core.Logic.{dite}
use native.Mathlib.Decide.{ℕ_discrete}
use Rattle.core.specs.declared.slots.Slots.{Slots}
use Rattle.core.specs.Mem.Slots.{slots_items, slots_filled, slots_len, slots_counts}
use Rattle.keybits.specs.declared.shape.Shape.{Shape}
use Rattle.keybits.specs.declared.step.Word.{Word}
use Rattle.keybits.specs.declared.step.Word.TheVariants.{Life}
use Rattle.keybits.specs.Shapes.{IsShape, is_place}
use Rattle.keybits.specs.Counts.{times}
use Rattle.keybits.proofs.CountLemmas.{times-head, one_at, none_at}
use Rattle.steplaws.specs.Facts.{Words, value_of, with_value, put_at}
use Rattle.steplaws.proofs.Updates.{at-here, at-else}
use Rattle.poolsteps.specs.Layout.{word_count, index_in, has_word, has_row, bits_index, words_in}
use Rattle.poolsteps.proofs.LayoutLemmas.{set-word, index-below, bits-below, value-is}
use Rattle.shardpool.specs.Marks.{IsRow, blanked, Blanks}

-- ---- rows

-- a row has as many words as the pool
pub row-length : (z : Shape) (words : Slots ℕ) → IsRow z words → length (slots_items words) ≡ word_count z
row-length z words row = sym (slots_counts words).0 ∙ row.1

blanked-append : (z : Shape) (xs ys words : List ℕ) → blanked z (xs ++ ys) words ≡ blanked z ys (blanked z xs words)
blanked-append z [] ys words = refl
blanked-append z (x ∷ xs) ys words = blanked-append z xs ys (slice_set words (index_in z (Life x)) 0)

-- nothing was marked yet
pub blanks-none : (z : Shape) (words : Slots ℕ) → IsRow z words → Blanks z [] words words
blanks-none z words row = record { items = refl; row = row; start = refl }

-- marks after marks
pub blanks-then : (z : Shape) (xs ys : List ℕ) (a b c : Slots ℕ) → Blanks z xs a b → Blanks z ys b c → Blanks z (xs ++ ys) a c
blanks-then z xs ys a b c h k = record {
  items = k.items ∙ (ap (blanked z ys) h.items ∙ sym (blanked-append z xs ys (slots_items a)));
  row = k.row;
  start = k.start ∙ h.start;
}

-- ---- what the words say after marks

-- the words after marks of these places: their lifecycle words are 0, and all other words are as before
pub record AreBlanked (places : List ℕ) (old new : Words) : Type 0 where
  pub link : new.link ≡ old.link
  pub stack : new.stack ≡ old.stack
  pub bits : new.bits ≡ old.bits
  pub gone : (place : ℕ) → 0 < times place places → new.life place ≡ 0
  pub kept : (place : ℕ) → times place places ≡ 0 → new.life place ≡ old.life place

one-blanked : (z : Shape) → IsShape z → (words : List ℕ) → length words ≡ word_count z → (place : ℕ) → is_place z place ≡ true
    → words_in z (slice_set words (index_in z (Life place)) 0) ≡ with_value (words_in z words) (Life place) 0
one-blanked z ok words count place inside = set-word z ok words count (Life place) inside 0

pub are-blanked : (z : Shape) → IsShape z → (places words : List ℕ) → length words ≡ word_count z → ((place : ℕ) → 0 < times place places → is_place z place ≡ true)
    → AreBlanked places (words_in z words) (words_in z (blanked z places words))
are-blanked z ok [] words count inside = record { link = refl; stack = refl; bits = refl; gone = λ place some. absurd (omega arith); kept = λ place none. refl }
are-blanked z ok (x ∷ more) words count inside =
    let here = inside x (times-head x more) in
    let next : List ℕ = slice_set words (index_in z (Life x)) 0 in
    let step : words_in z next ≡ with_value (words_in z words) (Life x) 0 = one-blanked z ok words count x here in
    let rest : AreBlanked more (words_in z next) (words_in z (blanked z more next)) = are-blanked z ok more next (length-set words (index_in z (Life x)) 0 ∙ count) (λ place some. inside place (omega arith)) in
    let old : ℕ → ℕ = (words_in z words).life in
    let stepped : (place : ℕ) → (words_in z next).life place ≡ put_at old x 0 place = λ place. ap (λ (w : Words). w.life place) step in
    record {
      link = rest.link ∙ ap (λ (w : Words). w.link) step;
      stack = rest.stack ∙ ap (λ (w : Words). w.stack) step;
      bits = rest.bits ∙ ap (λ (w : Words). w.bits) step;
      gone = λ place some. dite (ℕ_discrete (times place more) 0)
          (λ none. rest.kept place none ∙ (stepped place ∙ at-here old x 0 place (is-head place some none)))
          (λ again. rest.gone place (omega arith));
      kept = λ place none. rest.kept place (omega arith) ∙ (stepped place ∙ at-else old x 0 place (isnt-head place none));
    }
  where
    is-head : (place : ℕ) → 0 < times place (x ∷ more) → times place more ≡ 0 → place ≡ x
    is-head place some none = dite (ℕ_discrete x place)
        (λ same. sym same)
        (λ other. let zero_here = none_at x place other in absurd (omega arith))

    isnt-head : (place : ℕ) → times place (x ∷ more) ≡ 0 → place ≢ x
    isnt-head place none same = let one = one_at x place (sym same) in absurd (omega arith)

-- what a row says after marks
pub blanks-words : (z : Shape) → IsShape z → (places : List ℕ) (old new : Slots ℕ) → IsRow z old → ((place : ℕ) → 0 < times place places → is_place z place ≡ true)
    → Blanks z places old new → AreBlanked places (words_in z (slots_items old)) (words_in z (slots_items new))
blanks-words z ok places old new row inside h =
    subst (λ (words : List ℕ). AreBlanked places (words_in z (slots_items old)) (words_in z words)) (sym h.items)
    (are-blanked z ok places (slots_items old) (row-length z old row) inside)

-- what is read of a row is the word that stands there
pub read-word : (z : Shape) → IsShape z → (words : Slots ℕ) → IsRow z words → (word : Word) → has_word z word ≡ true → (i v : ℕ) → i ≡ index_in z word
    → v ≡ slice_index_or (slots_items words) i v → v ≡ value_of (words_in z (slots_items words)) word
read-word z ok words row word has i v at read =
    let below = index-below z ok word has in
    let long = row-length z words row in
    get_or_read (slots_items words) i v (omega arith) read 0 ∙ (ap (λ (n : ℕ). slice_index_or (slots_items words) n 0) at ∙ sym (value-is z (slots_items words) word has))

-- and so is the word of a row of bits
pub read-bits : (z : Shape) (words : Slots ℕ) → IsRow z words → (shard row : ℕ) → has_row z shard row ≡ true → (i v : ℕ) → i ≡ bits_index z shard row
    → v ≡ slice_index_or (slots_items words) i v → v ≡ (words_in z (slots_items words)).bits shard row
read-bits z words row_is shard row has i v at read =
    let below = bits-below z shard row has in
    let long = row-length z words row_is in
    get_or_read (slots_items words) i v (omega arith) read 0 ∙ (ap (λ (n : ℕ). slice_index_or (slots_items words) n 0) at
    ∙ sym (ap (λ (b : Bool). cond b (slice_index_or (slots_items words) (bits_index z shard row) 0) 0) has))

-- a place of a row that is within it is full
pub is-full : (z : Shape) (words : Slots ℕ) → IsRow z words → (i : ℕ) → i < word_count z → (i < slots_len words) × (slice_index_or (slots_filled words) i false ≡ true)
is-full z words row i low = let long = row.1 in let inside : i < slots_len words = omega arith in (inside, row.0 i (omega arith) inside)
