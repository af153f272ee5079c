-- Link and stack words: 0 for the end, else 1 more than the lowest 16 bits of a place's number, of the same shard.
use Rattle.std.specs.Prelude.{◌≡◌, ℕ, ◌+◌, ◌-◌, ◌*◌, ◌%◌, ◌<◌, List, [], ◌∷◌}

-- the word that stands for a place
abbrev pub link_to : ℕ → ℕ
link_to place = place % 65536 + 1

-- the place of a shard that a word other than 0 stands for
abbrev pub linked_place : ℕ → ℕ → ℕ
linked_place shard word = 65536 * shard + (word - 1)

-- from this word, the link words of a shard's places lead through these places, in order, to the end
abbrev pub Leads : (ℕ → ℕ) → ℕ → ℕ → List ℕ → Type 0
Leads links shard word [] = word ≡ 0
Leads links shard word (place ∷ more) = (0 < word) × (place ≡ linked_place shard word) × Leads links shard (links place) more
