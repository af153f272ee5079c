-- A trace as JSON: an object for each turn.
use Rattle.std.specs.Prelude.{ℕ, ◌-◌, ◌==◌, ◌&&◌, nat_le, nat_lt, Bool, true, false, List, [], ◌∷◌, ◌++◌, codes, decimal, if◌then◌else◌}
use Rattle.keybits.specs.Keys.{place_of, generation_of, tag_of}
use Rattle.keybits.specs.Places.{shard_of}
use Rattle.keybits.specs.Words.{state_in, count_in, generation_in}
use Rattle.keybits.specs.declared.step.Word.{Word}
use Rattle.keybits.specs.declared.step.Word.TheVariants as words
use Rattle.seqpool.specs.ActsText.{hex}
use Rattle.traces.specs.Text.{kind_text}
use Rattle.traces.specs.declared.reply.Reply.{Reply}
use Rattle.traces.specs.declared.reply.Reply.TheVariants as replies
use Rattle.traceviews.specs.Decoded.{state_text, state_with, place_text, link_text, aim_text, is_failed}
use Rattle.traceviews.specs.Lines.{kind_of}
use Rattle.traceviews.specs.Numbered.{numbered}
use Rattle.traceviews.specs.Turns.{turns_of, lane_of, front, behind}
use Rattle.traceviews.specs.declared.line.Entry.{Entry}
use Rattle.traceviews.specs.declared.line.Entry.TheVariants as entries
use Rattle.traceviews.specs.declared.line.Line.{Line}
use Rattle.traceviews.specs.declared.line.NamedStep.{NamedStep}

-- a lifecycle word: as it is, and its state, its count and its generation
abbrev pub life_object : ℕ → List ℕ
life_object word =
    codes "{\"word\":\"" ++ decimal word ++ codes "\",\"state\":\"" ++ state_text (state_with (state_in word))
    ++ (codes "\",\"count\":" ++ decimal (count_in word)) ++ (codes ",\"generation\":" ++ decimal (generation_in word)) ++ codes "}"

-- a link or stack word of a shard: as it is, and what it stands for
abbrev pub link_object : ℕ → ℕ → List ℕ
link_object shard word = codes "{\"word\":\"" ++ decimal word ++ codes "\",\"link\":\"" ++ link_text shard word ++ codes "\"}"

-- a value of a word
abbrev pub value_object : Word → ℕ → List ℕ
value_object (words.Life place) value = life_object value
value_object (words.Link place) value = link_object (shard_of place) value
value_object (words.Stack shard lane) value = link_object shard value

-- whether a step failed
abbrev pub failed_field : Bool → List ℕ
failed_field true = codes ",\"failed\":true}"
failed_field false = codes ",\"failed\":false}"

-- a step: its kind, on which word, what it found and left, and whether it failed
abbrev pub step_object : NamedStep → List ℕ
step_object s =
    codes "{\"kind\":\"" ++ kind_text (kind_of s.name) ++ codes "\",\"at\":\"" ++ aim_text s.word ++ codes "\",\"found\":"
    ++ value_object s.word s.before
    ++ codes ",\"left\":" ++ value_object s.word s.after ++ failed_field (is_failed s)

-- a reply without more
abbrev pub plain_object : List ℕ → List ℕ
plain_object name = codes "{\"reply\":\"" ++ name ++ codes "\"}"

-- a reply with a key: as it is, and its place, its generation and its tag
abbrev pub key_object : List ℕ → ℕ → List ℕ
key_object name key =
    codes "{\"reply\":\"" ++ name ++ (codes "\",\"key\":\"" ++ decimal key) ++ codes "\",\"place\":\"" ++ place_text (place_of key)
    ++ (codes "\",\"generation\":" ++ decimal (generation_of key)) ++ (codes ",\"tag\":" ++ decimal (tag_of key)) ++ codes "}"

-- a reply with a content
abbrev pub content_object : List ℕ → List ℕ → List ℕ
content_object name content = codes "{\"reply\":\"" ++ name ++ codes "\",\"content\":\"" ++ hex content ++ codes "\"}"

-- a reply
abbrev pub reply_object : Reply → List ℕ
reply_object (replies.Filling key) = key_object (codes "filling") key
reply_object (replies.Key key) = key_object (codes "key") key
reply_object (replies.Found content) = content_object (codes "some") content
reply_object (replies.Content content) = content_object (codes "content") content
reply_object replies.Full = plain_object (codes "full")
reply_object replies.Memory = plain_object (codes "memory")
reply_object replies.Done = plain_object (codes "ok")
reply_object replies.Missing = plain_object (codes "none")
reply_object (replies.Cleared true) = plain_object (codes "true")
reply_object (replies.Cleared false) = plain_object (codes "false")
reply_object replies.Skip = plain_object (codes "skip")

-- an entry
abbrev pub entry_object : Entry → List ℕ
entry_object (entries.Step s) = step_object s
entry_object (entries.Reply r) = reply_object r

-- what stands before the item of this number: nothing before the first, and else a comma
abbrev pub comma_before : ℕ → List ℕ
comma_before number = if number == 0 then [] else codes ","

-- entries in square brackets, with commas between them
abbrev pub item_text : ℕ → Line → List ℕ
item_text number line = comma_before number ++ entry_object line.entry

abbrev pub items_text : List Line → List ℕ
items_text lines = codes "[" ++ numbered item_text 0 lines ++ codes "]"

-- the step of a turn, by its lines from there on, and the replies behind it
abbrev pub step_fields : List Line → List ℕ
step_fields [] = codes ",\"step\":null,\"after\":[]"
step_fields (line ∷ more) = codes ",\"step\":" ++ entry_object line.entry ++ codes ",\"after\":" ++ items_text more

-- a turn: its number, its lane, the replies before its step, the step, and the replies behind it
abbrev pub turn_object : ℕ → List Line → List ℕ
turn_object number turn =
    codes "{\"turn\":" ++ decimal number ++ (codes ",\"lane\":" ++ decimal (lane_of turn)) ++ codes ",\"before\":"
    ++ items_text (front turn)
    ++ step_fields (behind turn) ++ codes "}"

-- each turn on a line of its own, with a comma behind the line before
abbrev pub turn_line : ℕ → List Line → List ℕ
turn_line number turn = comma_before number ++ codes "\n" ++ turn_object number turn

-- the turns of a trace
abbrev pub json_text : List Line → List ℕ
json_text lines = codes "[" ++ numbered turn_line 0 (turns_of lines) ++ codes "\n]\n"

-- a turn is among so many from this one on
abbrev pub is_within : ℕ → ℕ → ℕ → Bool
is_within first count number = nat_le first number && nat_lt (number - first) count

-- such a turn on a line of its own, with a comma behind the line before; of another turn nothing
abbrev pub line_within : ℕ → ℕ → ℕ → List Line → List ℕ
line_within first count number turn =
    if is_within first count number then comma_before (number - first) ++ codes "\n" ++ turn_object number turn else []

-- so many turns of a trace from this one on
abbrev pub window_text : ℕ → ℕ → List Line → List ℕ
window_text first count lines = codes "[" ++ numbered (line_within first count) 0 (turns_of lines) ++ codes "\n]\n"
