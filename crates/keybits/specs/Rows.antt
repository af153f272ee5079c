-- Rows of 64 places of a shard, each with a bit in the row's word.
use Rattle.std.specs.Prelude.{ℕ, zero, suc, ◌+◌, ◌-◌, ◌*◌, ◌^◌, Bool, nat_le, List, [], ◌∷◌, if◌then◌else◌}
use Rattle.keybits.specs.Counts.{sum_below}

-- the place of a shard that has this bit in this row
abbrev pub row_place : ℕ → ℕ → ℕ → ℕ
row_place shard row bit = 65536 * shard + 64 * row + bit

-- the word of the lowest so many bits, of which these are set
abbrev pub bits_word : ℕ → (ℕ → Bool) → ℕ
bits_word n set = sum_below n (λ bit. if set bit then 2 ^ bit else 0)

-- the word of a row, of whose places these have their bits set
abbrev pub row_word : ℕ → ℕ → (ℕ → Bool) → ℕ
row_word shard row set = bits_word 64 (λ bit. set (row_place shard row bit))

-- the places of a row whose bits are set among the lowest so many of a word, which has no higher ones; the highest first
abbrev pub row_places : ℕ → ℕ → ℕ → ℕ → List ℕ
row_places shard row word zero = []
row_places shard row word (suc n) = if nat_le (2 ^ n) word then row_place shard row n ∷ row_places shard row (word - 2 ^ n) n
    else row_places shard row word n

-- the places of a row whose bits are set in its word
unfoldable pub set_places : ℕ → ℕ → ℕ → List ℕ
set_places shard row word = row_places shard row word 64
