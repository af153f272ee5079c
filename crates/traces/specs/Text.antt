-- The text of a trace: a line for each reply and each step, in the order of the turns.
use Rattle.std.specs.Prelude.{ℕ, true, false, List, [], ◌++◌, Option, Some, None, codes}
use Rattle.std.specs.List.{flat_map}
use Rattle.std.specs.Fmt.{decimal}
use Rattle.keybits.specs.declared.step.Step.{Step}
use Rattle.keybits.specs.declared.step.Kind.{Kind}
use Rattle.keybits.specs.declared.step.Kind.TheVariants as kinds
use Rattle.keybits.specs.declared.step.Word.{Word}
use Rattle.keybits.specs.declared.step.Word.TheVariants as words
use Rattle.seqpool.specs.ActsText.{content_text}
use Rattle.traces.specs.declared.reply.Reply.{Reply}
use Rattle.traces.specs.declared.reply.Reply.TheVariants.{Filling, Full, Memory, Done, Key, Found, Missing, Content, Cleared, Skip}
use Rattle.traces.specs.declared.trace.Turn.{Turn}

-- a reply
abbrev pub reply_text : Reply → List ℕ
reply_text (Filling key) = codes "filling " ++ decimal key
reply_text Full = codes "full"
reply_text Memory = codes "memory"
reply_text Done = codes "ok"
reply_text (Key key) = codes "key " ++ decimal key
reply_text (Found content) = codes "some " ++ content_text content
reply_text Missing = codes "none"
reply_text (Content content) = content_text content
reply_text (Cleared true) = codes "true"
reply_text (Cleared false) = codes "false"
reply_text Skip = codes "skip"

-- the line of a reply: the lane, an equals sign and the reply
abbrev pub reply_line : ℕ → Reply → List ℕ
reply_line lane reply = decimal lane ++ codes " = " ++ reply_text reply ++ codes "\n"

-- the name of a kind of step
abbrev pub kind_text : Kind → List ℕ
kind_text kinds.Enter = codes "ENTER"
kind_text kinds.Leave = codes "LEAVE"
kind_text (kinds.Publish with_ref) = codes "PUBLISH"
kind_text kinds.Mark = codes "MARK"
kind_text (kinds.Claim generation) = codes "CLAIM"
kind_text (kinds.Link expected) = codes "LINK"
kind_text (kinds.Push expected link) = codes "PUSH"
kind_text kinds.Take = codes "TAKE"
kind_text kinds.Follow = codes "FOLLOW"

-- a word goes by its place, a stack by its shard and the returning lane
abbrev pub word_text : Word → List ℕ
word_text (words.Life place) = decimal place
word_text (words.Link place) = decimal place
word_text (words.Stack shard lane) = decimal shard ++ codes "." ++ decimal lane

-- the line of a step: the lane, the kind, the word, and its value before and after
abbrev pub step_line : ℕ → Step → List ℕ
step_line lane step =
    decimal lane ++ codes " " ++ kind_text step.kind ++ codes " " ++ word_text step.word
    ++ codes " " ++ decimal step.before ++ codes " " ++ decimal step.after ++ codes "\n"

-- the line of the step that a turn has, if it has one
abbrev pub step_lines : ℕ → Option Step → List ℕ
step_lines lane None = []
step_lines lane (Some step) = step_line lane step

-- the lines of a turn: the replies before the step, the step, the replies after it
abbrev pub turn_text : Turn → List ℕ
turn_text t = flat_map (reply_line t.lane) t.before ++ step_lines t.lane t.step ++ flat_map (reply_line t.lane) t.after

-- the text of a trace
abbrev pub trace_text : List Turn → List ℕ
trace_text turns = flat_map turn_text turns
