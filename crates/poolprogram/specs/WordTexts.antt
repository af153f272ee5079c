-- What is said of a number as a lifecycle word.
use Rattle.std.specs.Prelude.{◌==◌, ℕ, List, ◌++◌, if◌then◌else◌, decimal, codes}
use Rattle.keybits.specs.Words.{state_in, count_in, generation_in}

-- the name of a state, by its two bits
abbrev pub state_text : ℕ → List ℕ
state_text bits = if bits == 0 then codes "IDLE"
    else (if bits == 1 then codes "PRESENT" else (if bits == 2 then codes "RETIRED" else codes "MARKED"))

-- the line of a word with these state bits, this count and this generation
abbrev pub life_line : ℕ → ℕ → ℕ → List ℕ
life_line state count generation = state_text state ++ codes " count " ++ decimal count ++ codes " generation " ++ decimal generation
    ++ codes "\n"

-- the line of a lifecycle word
abbrev pub word_line : ℕ → List ℕ
word_line word = life_line (state_in word) (count_in word) (generation_in word)
