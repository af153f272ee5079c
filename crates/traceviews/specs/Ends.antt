-- What places are at the end of a trace.
use Rattle.std.specs.Prelude.{◌≡◌, ℕ, ◌==◌, Bool, List, [], ◌∷◌, Option, Some, None, if◌then◌else◌}
use Rattle.std.specs.BTreeMap.{is_at}
use Rattle.std.specs.List.Sorted.{IsStrictlySortedBy}
use Rattle.std.specs.Map.{keys_of, lookup}
use Rattle.std.specs.Ordering.{nat_cmp}
use Rattle.keybits.specs.Words.{state_bits, state_in}
use Rattle.keybits.specs.declared.words.State.{State}
use Rattle.keybits.specs.declared.step.Word.{Word}
use Rattle.keybits.specs.declared.step.Word.TheVariants as words
use Rattle.traceviews.specs.declared.line.Entry.{Entry}
use Rattle.traceviews.specs.declared.line.Entry.TheVariants as entries
use Rattle.traceviews.specs.declared.line.Line.{Line}

-- the place whose lifecycle word it is, with what is left in it
abbrev pub life_in : Word → ℕ → Option (ℕ × ℕ)
life_in (words.Life place) after = Some (place, after)
life_in (words.Link place) after = None
life_in (words.Stack shard lane) after = None

-- the place whose lifecycle word a step is made on, with what it leaves there
abbrev pub life_of : Entry → Option (ℕ × ℕ)
life_of (entries.Step s) = life_in s.word s.after
life_of (entries.Reply r) = None

-- the place's word behind a step, where it was this before
abbrev pub word_by : Option ℕ → ℕ → Option (ℕ × ℕ) → Option ℕ
word_by before place None = before
word_by before place (Some (found, word)) = if found == place then Some word else before

-- the place's word behind a line, where it was this before
abbrev pub word_after : Option ℕ → ℕ → Line → Option ℕ
word_after before place line = word_by before place (life_of line.entry)

-- the place's word behind some lines
abbrev pub word_from : Option ℕ → ℕ → List Line → Option ℕ
word_from before place [] = before
word_from before place (line ∷ more) = word_from (word_after before place line) place more

-- the lifecycle word that the last step on a place left
abbrev pub last_word : ℕ → List Line → Option ℕ
last_word place lines = word_from None place lines

-- the word is in this state
abbrev pub is_in : State → ℕ → Bool
is_in state word = state_in word == state_bits state

-- the place is in this state at the end, by its last word
abbrev pub is_end_in : State → ℕ × ℕ → Bool
is_end_in state end = is_in state end.1

-- the places on whose lifecycle words steps are made, in rising order, each with the word that the last such step left
pub record AreEnds (lines : List Line) (ends : List (ℕ × ℕ)) : Type 0 where
  pub rising : IsStrictlySortedBy nat_cmp (keys_of ends)
  pub last : (place : ℕ) → lookup (is_at (nat_cmp place)) ends ≡ last_word place lines
