-- Lifecycle words: state + 4 * count + 2^32 * generation.
use Rattle.std.specs.Prelude.{◌==◌, ◌&&◌, ℕ, ◌+◌, ◌*◌, ◌/◌, ◌%◌, Bool}
use Rattle.keybits.specs.declared.words.State.{State}
use Rattle.keybits.specs.declared.words.State.TheVariants.{Idle, Present, Retired, Marked}
use Rattle.keybits.specs.declared.words.Life.{Life}
use Rattle.keybits.specs.Keys.{generation_of}

-- the two lowest bits of a word in this state
abbrev pub state_bits : State → ℕ
state_bits Idle = 0
state_bits Present = 1
state_bits Retired = 2
state_bits Marked = 3

-- the word with these state bits, this count and this generation
abbrev pub word_with : ℕ → ℕ → ℕ → ℕ
word_with state count generation = state + 4 * count + 4294967296 * generation

-- the word that says this of a place
abbrev pub word_of : Life → ℕ
word_of life = word_with (state_bits life.state) life.count life.generation

-- the state bits of a word
abbrev pub state_in : ℕ → ℕ
state_in word = word % 4

-- the count in a word
abbrev pub count_in : ℕ → ℕ
count_in word = word / 4 % 1073741824

-- the generation in a word
abbrev pub generation_in : ℕ → ℕ
generation_in word = word / 4294967296

-- the word of a place before its first publish: generation 1, idle, count 0
abbrev pub fresh_word : ℕ
fresh_word = word_with 0 0 1

-- the one word from which a claim of this generation succeeds: marked, with count 0
abbrev pub claimable : ℕ → ℕ
claimable generation = word_with 3 0 generation

-- an ENTER that finds this word hits the key: its generation, and PRESENT
abbrev pub is_hit : ℕ → ℕ → Bool
is_hit key word = (generation_in word == generation_of key) && (state_in word == 1)

-- a LEAVE that finds this word owes a claim: MARKED with count 1
abbrev pub owes_claim : ℕ → Bool
owes_claim word = (state_in word == 3) && (count_in word == 1)
