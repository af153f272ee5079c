-- The lines of a trace with their words decoded.
use Rattle.std.specs.Prelude.{ℕ, ◌-◌, ◌==◌, nat_lt, Bool, true, false, List, ◌++◌, codes, decimal, if◌then◌else◌}
use Rattle.keybits.specs.Places.{shard_of, page_of, slot_of}
use Rattle.keybits.specs.Words.{state_in, count_in, generation_in}
use Rattle.keybits.specs.declared.words.State.{State}
use Rattle.keybits.specs.declared.words.State.TheVariants as states
use Rattle.keybits.specs.declared.step.Word.{Word}
use Rattle.keybits.specs.declared.step.Word.TheVariants as words
use Rattle.traces.specs.Text.{kind_text}
use Rattle.traceviews.specs.Lines.{kind_of}
use Rattle.traceviews.specs.declared.line.NamedStep.{NamedStep}
use Rattle.traceviews.specs.declared.line.StepName.{StepName}
use Rattle.traceviews.specs.declared.line.StepName.TheVariants as names

-- the name of a state
abbrev pub state_text : State → List ℕ
state_text states.Idle = codes "IDLE"
state_text states.Present = codes "PRESENT"
state_text states.Retired = codes "RETIRED"
state_text states.Marked = codes "MARKED"

-- the state that these two bits stand for
abbrev pub state_with : ℕ → State
state_with bits = if bits == 0 then states.Idle
    else (if bits == 1 then states.Present else (if bits == 2 then states.Retired else states.Marked))

-- a shard, a page and a slot
abbrev pub triple_text : ℕ → ℕ → ℕ → List ℕ
triple_text shard page slot = decimal shard ++ codes "/" ++ decimal page ++ codes "/" ++ decimal slot

-- the place of this number
abbrev pub place_text : ℕ → List ℕ
place_text place = triple_text (shard_of place) (page_of place) (slot_of place)

-- a count and a generation
abbrev pub counts_text : ℕ → ℕ → List ℕ
counts_text count generation = codes " count " ++ decimal count ++ (codes " generation " ++ decimal generation)

-- a lifecycle word: its state, its count and its generation
abbrev pub life_text : ℕ → List ℕ
life_text word = state_text (state_with (state_in word)) ++ counts_text (count_in word) (generation_in word)

-- a link or stack word of a shard: the end, or the place that it stands for; a number that stands for none as it is
abbrev pub link_text : ℕ → ℕ → List ℕ
link_text shard word =
    if word == 0 then codes "end" else (if nat_lt 65536 word then decimal word
    else triple_text shard (page_of (word - 1)) (slot_of (word - 1)))

-- a value of a word
abbrev pub value_text : Word → ℕ → List ℕ
value_text (words.Life place) value = life_text value
value_text (words.Link place) value = link_text (shard_of place) value
value_text (words.Stack shard lane) value = link_text shard value

-- which word it is: a place, or a stack by its shard and the returning lane
abbrev pub aim_text : Word → List ℕ
aim_text (words.Life place) = place_text place
aim_text (words.Link place) = place_text place
aim_text (words.Stack shard lane) = decimal shard ++ codes "." ++ decimal lane

-- steps of this name fail where they leave the word as they found it
abbrev pub can_fail : StepName → Bool
can_fail names.Push = true
can_fail names.Claim = true
can_fail names.Enter = false
can_fail names.Leave = false
can_fail names.Publish = false
can_fail names.Mark = false
can_fail names.Link = false
can_fail names.Take = false
can_fail names.Follow = false

-- a push or a claim that left the word as it found it
abbrev pub is_failed : NamedStep → Bool
is_failed s = if can_fail s.name then s.before == s.after else false

-- the end of a step's line
abbrev pub failed_text : NamedStep → List ℕ
failed_text s = if is_failed s then codes " failed\n" else codes "\n"

-- the line of a step
abbrev pub step_words : ℕ → NamedStep → List ℕ
step_words lane s =
    decimal lane ++ codes " " ++ kind_text (kind_of s.name) ++ codes " " ++ aim_text s.word ++ codes " "
    ++ (value_text s.word s.before ++ codes " -> " ++ value_text s.word s.after ++ failed_text s)
