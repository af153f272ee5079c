-- Each word of the pool has its own place among the words of a table.
use Rattle.std.proofs.Common.{◌≡◌, ◌≢◌, ℕ, ◌+◌, ◌*◌, ◌<◌, Bool, true, false, cond, nat_lt, List, length, slice_index, slice_set, ap, sym, ◌∙◌, arith, ⊎_elim, get_or-set_other, get_or-set_same}
use Rattle.std.proofs.lemmas.Bool.{and_parts, ltb-true, cases_Bool}
use Rattle.std.proofs.lemmas.Nat.{same_from_place, mul-add-lt}
use mathlib.Core.Logic.{dite}
use native.Mathlib.Decide.{ℕ_discrete}
use Rattle.keybits.specs.declared.shape.Shape.{Shape}
use Rattle.keybits.specs.declared.step.Word.{Word}
use Rattle.keybits.specs.declared.step.Word.TheVariants.{Life, Link, Stack}
use Rattle.keybits.specs.Shapes.{IsShape}
use Rattle.steplaws.specs.Facts.{value_of, with_value, with_bits, put_at, put_two}
use Rattle.steplaws.proofs.Updates.{at-here, at-else, two-here, two-row, two-else}
use Rattle.poolsteps.specs.Layout.{word_count, bits_start, row_count, bits_index, has_row, bits_in, index_in, has_word, value_in, words_in}
use Rattle.poolsteps.proofs.SlotLemmas.{in-row, start-injective}

-- ---- where each word stands

-- the stack words stand in a square behind the two rows
stack-low : (z : Shape) (shard lane : ℕ) → has_word z (Stack shard lane) ≡ true → shard * z.lanes + lane < z.lanes * z.lanes
stack-low z shard lane has =
    let both = and_parts (nat_lt shard z.lanes) (nat_lt lane z.lanes) has in
    mul-add-lt shard z.lanes lane z.lanes (ltb-true shard z.lanes both.0) (ltb-true lane z.lanes both.1)

index-before : (z : Shape) → IsShape z → (word : Word) → has_word z word ≡ true → index_in z word < bits_start z
index-before z ok (Life place) has = let low = in-row z place has in omega arith
index-before z ok (Link place) has = let low = in-row z place has in omega arith
index-before z ok (Stack shard lane) has = let low = stack-low z shard lane has in omega arith

pub index-below : (z : Shape) → IsShape z → (word : Word) → has_word z word ≡ true → index_in z word < word_count z
index-below z ok word has = let low = index-before z ok word has in omega arith

-- the words of rows stand behind them
row-low : (z : Shape) (shard row : ℕ) → has_row z shard row ≡ true → shard * row_count z + row < z.lanes * row_count z
row-low z shard row has =
    let both = and_parts (nat_lt shard z.lanes) (nat_lt row (row_count z)) has in
    let low = mul-add-lt shard (row_count z) row z.lanes (ltb-true shard z.lanes both.0) (ltb-true row (row_count z) both.1) in omega arith

pub bits-below : (z : Shape) (shard row : ℕ) → has_row z shard row ≡ true → bits_index z shard row < word_count z
bits-below z shard row has = let low = row-low z shard row has in omega arith

-- ---- no two words stand at one place

-- two words of the pool at one place are one
index-apart : (z : Shape) (a b : Word) → has_word z a ≡ true → has_word z b ≡ true → index_in z a ≡ index_in z b → a ≡ b
index-apart z (Life p) (Life q) hp hq same = ap Life (start-injective z p q hp hq (omega arith))
index-apart z (Link p) (Link q) hp hq same = ap Link (start-injective z p q hp hq (omega arith))
index-apart z (Stack s l) (Stack t m) hs ht same =
    let l_below = ltb-true l z.lanes (and_parts (nat_lt s z.lanes) (nat_lt l z.lanes) hs).1 in
    let m_below = ltb-true m z.lanes (and_parts (nat_lt t z.lanes) (nat_lt m z.lanes) ht).1 in
    let one = same_from_place s l t m z.lanes l_below m_below (omega arith) in
    cc (one.0, one.1)
index-apart z (Life p) (Link q) hp hq same = let low = in-row z p hp in absurd (omega arith)
index-apart z (Link p) (Life q) hp hq same = let low = in-row z q hq in absurd (omega arith)
index-apart z (Life p) (Stack t m) hp ht same = let low = in-row z p hp in absurd (omega arith)
index-apart z (Link p) (Stack t m) hp ht same = let low = in-row z p hp in absurd (omega arith)
index-apart z (Stack s l) (Life q) hs hq same = let low = in-row z q hq in absurd (omega arith)
index-apart z (Stack s l) (Link q) hs hq same = let low = in-row z q hq in absurd (omega arith)

-- ---- what each word has

-- the value of a word that the pool has, and of one that it hasn't
value-in : (z : Shape) (words : List ℕ) (word : Word) → has_word z word ≡ true → value_in z words word ≡ slice_index words (index_in z word)
value-in z words word has = ap (λ (b : Bool). cond b (slice_index words (index_in z word)) 0) has

pub value-out : (z : Shape) (words : List ℕ) (word : Word) → has_word z word ≡ false → value_in z words word ≡ 0
value-out z words word hasnt = ap (λ (b : Bool). cond b (slice_index words (index_in z word)) 0) hasnt

-- what a word of the pool has
pub value-is : (z : Shape) (words : List ℕ) (word : Word) → has_word z word ≡ true → value_of (words_in z words) word ≡ slice_index words (index_in z word)
value-is z words (Life place) = value-in z words (Life place)
value-is z words (Link place) = value-in z words (Link place)
value-is z words (Stack shard lane) = value-in z words (Stack shard lane)

module _ (z : Shape) (ok : IsShape z) (words : List ℕ) (count : length words ≡ word_count z) (word : Word) (has : has_word z word ≡ true) (value : ℕ) where
  -- the words of the table after the one was set
  abbrev after : List ℕ
  after = slice_set words (index_in z word) value

  -- the one word has the value then, and each other what it had
  set-here : (other : Word) → other ≡ word → value_in z after other ≡ value
  set-here other e =
      let below = index-below z ok word has in
      ap (value_in z after) e ∙ (value-in z after word has ∙ get_or-set_same words (index_in z word) value 0 (omega arith))

  set-other : (other : Word) → other ≢ word → value_in z after other ≡ value_in z words other
  set-other other apart = ⊎_elim
      (λ (is : has_word z other ≡ true). value-in z after other is
      ∙ (get_or-set_other words (index_in z word) (index_in z other) value 0 (λ same. apart (index-apart z other word is has same))
      ∙ sym (value-in z words other is)))
      (λ isnt. value-out z after other isnt ∙ sym (value-out z words other isnt))
      (cases_Bool (has_word z other))

-- no row's word changes with another word
other-row : (z : Shape) → IsShape z → (words : List ℕ) (word : Word) → has_word z word ≡ true → (value s r : ℕ)
    → bits_in z (slice_set words (index_in z word) value) s r ≡ bits_in z words s r
other-row z ok words word has value s r = ap (λ (n : ℕ). cond (has_row z s r) n 0)
    (get_or-set_other words (index_in z word) (bits_index z s r) value 0 (λ same. let low = index-before z ok word has in absurd (omega arith)))

-- the word of a row is changed, and that one alone
pub set-bits : (z : Shape) → IsShape z → (words : List ℕ) → length words ≡ word_count z → (shard row : ℕ) → has_row z shard row ≡ true → (value : ℕ)
    → words_in z (slice_set words (bits_index z shard row) value) ≡ with_bits (words_in z words) shard row value
set-bits z ok words count shard row has value =
    let old : ℕ → ℕ → ℕ = bits_in z words in
    let after : List ℕ = slice_set words (bits_index z shard row) value in
    let low = bits-below z shard row has in
    let here : bits_in z after shard row ≡ value = ap (λ (b : Bool). cond b (slice_index after (bits_index z shard row)) 0) has
    ∙ get_or-set_same words (bits_index z shard row) value 0 (omega arith) in
    let else : (s r : ℕ) → (bits_index z s r ≡ bits_index z shard row → has_row z s r ≡ true → ⊥) → bits_in z after s r ≡ old s r = λ s r apart. ⊎_elim
    (λ (is : has_row z s r ≡ true). ap (λ (n : ℕ). cond (has_row z s r) n 0) (get_or-set_other words (bits_index z shard row) (bits_index z s r) value 0 (λ same. apart same is)))
    (λ (isnt : has_row z s r ≡ false). ap (λ (b : Bool). cond b (slice_index after (bits_index z s r)) 0) isnt
    ∙ sym (ap (λ (b : Bool). cond b (slice_index words (bits_index z s r)) 0) isnt))
    (cases_Bool (has_row z s r)) in
    let same-place : (s r : ℕ) → bits_index z s r ≡ bits_index z shard row → has_row z s r ≡ true → (s ≡ shard) × (r ≡ row) = λ s r same is.
    same_from_place s r shard row (row_count z) (ltb-true r (row_count z) (and_parts (nat_lt s z.lanes) (nat_lt r (row_count z)) is).1)
    (ltb-true row (row_count z) (and_parts (nat_lt shard z.lanes) (nat_lt row (row_count z)) has).1) (omega (arith, same)) in
    let rows : (s r : ℕ) → bits_in z after s r ≡ put_two old shard row value s r = λ s r.
    dite (ℕ_discrete s shard)
    (λ d. dite (ℕ_discrete r row)
    (λ e. ap (λ (n : ℕ). bits_in z after n r) d ∙ (ap (bits_in z after shard) e ∙ (here ∙ sym (two-here old shard row value s r d e))))
    (λ n. else s r (λ same is. n (same-place s r same is).1) ∙ sym (two-else old shard row value s r n)))
    (λ n. else s r (λ same is. n (same-place s r same is).0) ∙ sym (two-row old shard row value s r n)) in
    let others : (word : Word) → value_in z after word ≡ value_in z words word = λ word. ⊎_elim
    (λ (is : has_word z word ≡ true). value-in z after word is
    ∙ (get_or-set_other words (bits_index z shard row) (index_in z word) value 0 (λ same. let before = index-before z ok word is in absurd (omega arith))
    ∙ sym (value-in z words word is)))
    (λ isnt. value-out z after word isnt ∙ sym (value-out z words word isnt))
    (cases_Bool (has_word z word)) in
    λ k. record { life = λ p. others (Life p) k; link = λ p. others (Link p) k; stack = λ s l. others (Stack s l) k; bits = λ s r. rows s r k }

-- what the word of a row of the pool has
pub bits-is : (z : Shape) (words : List ℕ) (shard row : ℕ) → has_row z shard row ≡ true → bits_in z words shard row ≡ slice_index words (bits_index z shard row)
bits-is z words shard row has = ap (λ (b : Bool). cond b (slice_index words (bits_index z shard row)) 0) has

-- a word of the table is changed, and that word of the pool alone
pub set-word : (z : Shape) → IsShape z → (words : List ℕ) → length words ≡ word_count z → (word : Word) → has_word z word ≡ true → (value : ℕ)
    → words_in z (slice_set words (index_in z word) value) ≡ with_value (words_in z words) word value
set-word z ok words count (Life place) has value =
    let here = set-here z ok words count (Life place) has value in
    let other = set-other z ok words count (Life place) has value in
    let old : ℕ → ℕ = (words_in z words).life in
    let lives : (p : ℕ) → value_in z (slice_set words (index_in z (Life place)) value) (Life p) ≡ put_at old place value p = λ p.
    dite (ℕ_discrete p place)
    (λ e. here (Life p) (ap Life e) ∙ sym (at-here old place value p e))
    (λ n. other (Life p) (λ e. n (cc e)) ∙ sym (at-else old place value p n)) in
    λ k. record { life = λ p. lives p k; link = λ p. other (Link p) (λ e. absurd (cc e)) k; stack = λ s l. other (Stack s l) (λ e. absurd (cc e)) k; bits = λ s r. other-row z ok words (Life place) has value s r k }
set-word z ok words count (Link place) has value =
    let here = set-here z ok words count (Link place) has value in
    let other = set-other z ok words count (Link place) has value in
    let old : ℕ → ℕ = (words_in z words).link in
    let links : (p : ℕ) → value_in z (slice_set words (index_in z (Link place)) value) (Link p) ≡ put_at old place value p = λ p.
    dite (ℕ_discrete p place)
    (λ e. here (Link p) (ap Link e) ∙ sym (at-here old place value p e))
    (λ n. other (Link p) (λ e. n (cc e)) ∙ sym (at-else old place value p n)) in
    λ k. record { life = λ p. other (Life p) (λ e. absurd (cc e)) k; link = λ p. links p k; stack = λ s l. other (Stack s l) (λ e. absurd (cc e)) k; bits = λ s r. other-row z ok words (Link place) has value s r k }
set-word z ok words count (Stack shard lane) has value =
    let here = set-here z ok words count (Stack shard lane) has value in
    let other = set-other z ok words count (Stack shard lane) has value in
    let old : ℕ → ℕ → ℕ = (words_in z words).stack in
    let stacks : (s l : ℕ) → value_in z (slice_set words (index_in z (Stack shard lane)) value) (Stack s l) ≡ put_two old shard lane value s l = λ s l.
    dite (ℕ_discrete s shard)
    (λ d. dite (ℕ_discrete l lane)
    (λ e. here (Stack s l) (cc (d, e)) ∙ sym (two-here old shard lane value s l d e))
    (λ n. other (Stack s l) (λ e. n (cc e)) ∙ sym (two-else old shard lane value s l n)))
    (λ n. other (Stack s l) (λ e. n (cc e)) ∙ sym (two-row old shard lane value s l n)) in
    λ k. record { life = λ p. other (Life p) (λ e. absurd (cc e)) k; link = λ p. other (Link p) (λ e. absurd (cc e)) k; stack = λ s l. stacks s l k; bits = λ s r. other-row z ok words (Stack shard lane) has value s r k }
