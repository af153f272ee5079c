-- The lines of a trace with their words decoded, in a style: with keys decoded, and with the numbers of turns.
use Rattle.std.specs.Prelude.{ℕ, ◌==◌, Bool, true, false, List, [], ◌++◌, flat_map, codes, decimal, if◌then◌else◌}
use Rattle.keybits.specs.Keys.{place_of, generation_of, tag_of}
use Rattle.traces.specs.Text.{reply_line}
use Rattle.traces.specs.declared.reply.Reply.{Reply}
use Rattle.traces.specs.declared.reply.Reply.TheVariants as replies
use Rattle.traceviews.specs.Decoded.{place_text, step_words}
use Rattle.traceviews.specs.Numbered.{numbered}
use Rattle.traceviews.specs.Turns.{turns_of}
use Rattle.traceviews.specs.declared.line.Entry.{Entry}
use Rattle.traceviews.specs.declared.line.Entry.TheVariants as entries
use Rattle.traceviews.specs.declared.line.Line.{Line}
use Rattle.traceviews.specs.declared.words.WordStyle.{WordStyle}

-- a key's tag, where it isn't 0, and the end of the line
abbrev pub tag_words : ℕ → List ℕ
tag_words tag = (if tag == 0 then [] else codes " tag " ++ decimal tag) ++ codes "\n"

-- the line of a reply with a key: its place, its generation and its tag
abbrev pub key_line : ℕ → List ℕ → ℕ → List ℕ
key_line lane name key = decimal lane ++ name ++ place_text (place_of key) ++ (codes " generation " ++ decimal (generation_of key))
    ++ tag_words (tag_of key)

-- the line of a reply of this lane, with its key decoded
abbrev pub decoded_reply : ℕ → Reply → List ℕ
decoded_reply lane (replies.Filling key) = key_line lane (codes " = filling ") key
decoded_reply lane (replies.Key key) = key_line lane (codes " = key ") key
decoded_reply lane replies.Full = reply_line lane replies.Full
decoded_reply lane replies.Memory = reply_line lane replies.Memory
decoded_reply lane replies.Done = reply_line lane replies.Done
decoded_reply lane (replies.Found content) = reply_line lane (replies.Found content)
decoded_reply lane replies.Missing = reply_line lane replies.Missing
decoded_reply lane (replies.Content content) = reply_line lane (replies.Content content)
decoded_reply lane (replies.Cleared marked) = reply_line lane (replies.Cleared marked)
decoded_reply lane replies.Skip = reply_line lane replies.Skip

-- the line of a reply, with its key decoded or as the trace has it
abbrev pub reply_words : Bool → ℕ → Reply → List ℕ
reply_words true lane reply = decoded_reply lane reply
reply_words false lane reply = reply_line lane reply

-- an entry of this lane
abbrev pub entry_words : Bool → ℕ → Entry → List ℕ
entry_words keys lane (entries.Step s) = step_words lane s
entry_words keys lane (entries.Reply r) = reply_words keys lane r

-- a line
abbrev pub styled_words : Bool → Line → List ℕ
styled_words keys line = entry_words keys line.lane line.entry

-- a line behind the number of its turn
abbrev pub numbered_words : Bool → ℕ → Line → List ℕ
numbered_words keys number line = decimal number ++ codes ": " ++ styled_words keys line

-- the lines of a turn, each behind the turn's number
abbrev pub turn_words : Bool → ℕ → List Line → List ℕ
turn_words keys number turn = flat_map (numbered_words keys number) turn

-- the lines of a trace, with or without the numbers of their turns
abbrev pub lines_words : Bool → Bool → List Line → List ℕ
lines_words keys true lines = numbered (turn_words keys) 0 (turns_of lines)
lines_words keys false lines = flat_map (styled_words keys) lines

-- the lines of a trace in a style
abbrev pub words_of : WordStyle → List Line → List ℕ
words_of style lines = lines_words style.keys style.numbers lines
