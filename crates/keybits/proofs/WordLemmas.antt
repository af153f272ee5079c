-- A lifecycle word and its three fields.
use Rattle.std.proofs.Common.{◌≡◌, ◌⊎◌, ℕ, ◌+◌, ◌*◌, ◌/◌, ◌%◌, ◌^◌, ◌<◌, refl, ap, ◌∙◌, ⊎_elim, arith}
use Rattle.std.specs.Int.Bits.{bit_or, or_zero_r}
use Rattle.std.proofs.lemmas.Nat.{or_block}
use Rattle.keybits.specs.declared.words.State.{State}
use Rattle.keybits.specs.declared.words.State.TheVariants.{Idle, Present, Retired, Marked}
use Rattle.keybits.specs.Words.{state_bits, word_with, state_in, count_in, generation_in}

pub state_in-word_with : (state count generation : ℕ) → state < 4 → state_in (word_with state count generation) ≡ state
state_in-word_with state count generation s = omega arith

pub count_in-word_with : (state count generation : ℕ) → state < 4 → count < 1073741824 → count_in (word_with state count generation) ≡ count
count_in-word_with state count generation s n = omega arith

pub generation_in-word_with : (state count generation : ℕ) → state < 4 → count < 1073741824 → generation_in (word_with state count generation) ≡ generation
generation_in-word_with state count generation s n = omega arith

-- the fields of a word make the word
pub word_with-parts : (word : ℕ) → word_with (state_in word) (count_in word) (generation_in word) ≡ word
word_with-parts word = omega arith

pub state_in-lt : (word : ℕ) → state_in word < 4
state_in-lt word = omega arith

pub count_in-lt : (word : ℕ) → count_in word < 1073741824
count_in-lt word = omega arith

pub state_bits-lt : (state : State) → state_bits state < 4
state_bits-lt Idle = omega arith
state_bits-lt Present = omega arith
state_bits-lt Retired = omega arith
state_bits-lt Marked = omega arith

-- two states with the same bits are one
pub state_bits-injective : (s t : State) → state_bits s ≡ state_bits t → s ≡ t
state_bits-injective Idle Idle e = refl
state_bits-injective Present Present e = refl
state_bits-injective Retired Retired e = refl
state_bits-injective Marked Marked e = refl
state_bits-injective Idle t e = absurd (omega arith)
state_bits-injective Present t e = absurd (omega arith)
state_bits-injective Retired t e = absurd (omega arith)
state_bits-injective Marked t e = absurd (omega arith)

-- the mark's bit
pub or_two : (word : ℕ) → (state_in word ≡ 1) ⊎ (state_in word ≡ 3) → bit_or word 2 ≡ word / 4 * 4 + 3
or_two word open_state =
    let whole : word ≡ word / 4 * 2 ^ 2 + word % 4 = omega arith in
    let split : bit_or (word / 4 * 2 ^ 2 + word % 4) (0 * 2 ^ 2 + 2) ≡ bit_or (word / 4) 0 * 2 ^ 2 + bit_or (word % 4) 2 = or_block 2 (word / 4) 0 (word % 4) 2 (omega arith) (omega arith) in
    let high : bit_or (word / 4) 0 ≡ word / 4 = or_zero_r (word / 4) in
    let low : bit_or (word % 4) 2 ≡ 3 = ⊎_elim (λ e. ap (λ (s : ℕ). bit_or s 2) e) (λ e. ap (λ (s : ℕ). bit_or s 2) e) open_state in
    ap (λ (n : ℕ). bit_or n 2) whole ∙ (split ∙ (ap (λ (n : ℕ). n * 2 ^ 2 + bit_or (word % 4) 2) high ∙ ap (λ (n : ℕ). word / 4 * 2 ^ 2 + n) low))
