-- The lines of a trace's text, each with the lane that it is of.
use Rattle.std.specs.Prelude.{◌≡◌, ◌≢◌, ◌⊎◌, ℕ, ◌+◌, List, [], ◌∷◌, ◌++◌, flat_map, map, length, false, codes, Option, Some, None}
use Rattle.std.specs.List.{AllByRecursion}
use Rattle.keybits.specs.declared.step.Kind.{Kind}
use Rattle.keybits.specs.declared.step.Kind.TheVariants as kinds
use Rattle.keybits.specs.declared.step.Step.{Step}
use Rattle.keybits.specs.declared.step.Word.{Word}
use Rattle.keybits.specs.declared.step.Word.TheVariants as words
use Rattle.seqpool.specs.ActsText.{AreBytes, IsU32, IsKeyNumber, IsPlaceNumber, IsUpToLineFeed}
use Rattle.traces.specs.Text.{reply_line, step_line}
use Rattle.traces.specs.declared.reply.Reply.{Reply}
use Rattle.traces.specs.declared.reply.Reply.TheVariants as replies
use Rattle.traces.specs.declared.trace.Turn.{Turn}
use Rattle.traceviews.specs.declared.line.Entry.{Entry}
use Rattle.traceviews.specs.declared.line.Entry.TheVariants as entries
use Rattle.traceviews.specs.declared.line.Line.{Line}
use Rattle.traceviews.specs.declared.line.NamedStep.{NamedStep}
use Rattle.traceviews.specs.declared.line.StepName.{StepName}
use Rattle.traceviews.specs.declared.line.StepName.TheVariants as names

-- a kind of step of this name; of its operands no line says anything
abbrev pub kind_of : StepName → Kind
kind_of names.Enter = kinds.Enter
kind_of names.Leave = kinds.Leave
kind_of names.Publish = kinds.Publish false
kind_of names.Mark = kinds.Mark
kind_of names.Claim = kinds.Claim 0
kind_of names.Link = kinds.Link 0
kind_of names.Push = kinds.Push 0 0
kind_of names.Take = kinds.Take
kind_of names.Follow = kinds.Follow

-- the name of a kind of step
abbrev pub name_of : Kind → StepName
name_of kinds.Enter = names.Enter
name_of kinds.Leave = names.Leave
name_of (kinds.Publish with_ref) = names.Publish
name_of kinds.Mark = names.Mark
name_of (kinds.Claim generation) = names.Claim
name_of (kinds.Link expected) = names.Link
name_of (kinds.Push expected link) = names.Push
name_of kinds.Take = names.Take
name_of kinds.Follow = names.Follow

-- a step of this name, on this word, with these values
abbrev pub step_of : NamedStep → Step
step_of s = record { kind = kind_of s.name; word = s.word; before = s.before; after = s.after }

-- the text of an entry of this lane
abbrev pub entry_text : ℕ → Entry → List ℕ
entry_text lane (entries.Step s) = step_line lane (step_of s)
entry_text lane (entries.Reply r) = reply_line lane r

-- the text of a line, with the line feed at its end
abbrev pub line_text : Line → List ℕ
line_text l = entry_text l.lane l.entry

-- the text of some lines
abbrev pub lines_text : List Line → List ℕ
lines_text lines = flat_map line_text lines

-- the lifecycle word of a place
abbrev pub IsLifeWord : Word → Type 0
IsLifeWord (words.Life place) = IsPlaceNumber place
IsLifeWord (words.Link place) = ⊥
IsLifeWord (words.Stack shard lane) = ⊥

-- the link word of a place
abbrev pub IsLinkWord : Word → Type 0
IsLinkWord (words.Life place) = ⊥
IsLinkWord (words.Link place) = IsPlaceNumber place
IsLinkWord (words.Stack shard lane) = ⊥

-- a stack
abbrev pub IsStackWord : Word → Type 0
IsStackWord (words.Life place) = ⊥
IsStackWord (words.Link place) = ⊥
IsStackWord (words.Stack shard lane) = IsU32 shard × IsU32 lane

-- a word that steps of this name are made on
abbrev pub IsWordOf : StepName → Word → Type 0
IsWordOf names.Enter word = IsLifeWord word
IsWordOf names.Leave word = IsLifeWord word
IsWordOf names.Publish word = IsLifeWord word
IsWordOf names.Mark word = IsLifeWord word
IsWordOf names.Claim word = IsLifeWord word
IsWordOf names.Link word = IsLinkWord word
IsWordOf names.Push word = IsStackWord word
IsWordOf names.Take word = IsStackWord word
IsWordOf names.Follow word = IsLinkWord word

-- a step that a line can have
abbrev pub IsNamedStep : NamedStep → Type 0
IsNamedStep s = IsWordOf s.name s.word × IsKeyNumber s.before × IsKeyNumber s.after

-- a reply that a line can have
abbrev pub HasReply : Reply → Type 0
HasReply (replies.Filling key) = IsKeyNumber key
HasReply (replies.Key key) = IsKeyNumber key
HasReply (replies.Found content) = AreBytes content
HasReply (replies.Content content) = AreBytes content
HasReply replies.Full = Unit {0}
HasReply replies.Memory = Unit {0}
HasReply replies.Done = Unit {0}
HasReply replies.Missing = Unit {0}
HasReply (replies.Cleared marked) = Unit {0}
HasReply replies.Skip = Unit {0}

-- an entry that a line can have
abbrev pub HasEntry : Entry → Type 0
HasEntry (entries.Step s) = IsNamedStep s
HasEntry (entries.Reply r) = HasReply r

-- a line that a text can have: its numbers are within their ranges, and its step is made on such a word
abbrev pub HasLine : Line → Type 0
HasLine l = IsU32 l.lane × HasEntry l.entry

-- the text is that of these lines; the last may lack its line feed
abbrev pub AreLines : List Line → List ℕ → Type 0
AreLines lines text = AllByRecursion HasLine lines × IsUpToLineFeed text (lines_text lines)

-- the text begins with these lines, and this comes after them; where nothing does, the last may lack its line feed
pub record BeginWith (lines : List Line) (rest text : List ℕ) : Type 0 where
  pub all : AllByRecursion HasLine lines
  pub parts : (text ≡ lines_text lines ++ rest) ⊎ ((rest ≡ []) × (text ++ codes "\n" ≡ lines_text lines))

-- the line of this number, counted from 1, is the first that is none: lines stand before it, and no line begins what is left
pub record IsFirstWrong (number : ℕ) (text : List ℕ) : Type 0 where
  pub front : List Line
  pub rest : List ℕ
  pub lines : AllByRecursion HasLine front
  pub parts : text ≡ lines_text front ++ rest
  pub counted : number ≡ length front + 1
  pub some : rest ≢ []
  pub wrong : (line : Line) (more : List ℕ) → HasLine line → IsUpToLineFeed rest (line_text line ++ more) → ⊥

-- the lines of a turn

-- a reply of this lane, as a line
abbrev pub reply_entry : ℕ → Reply → Line
reply_entry lane reply = record { lane = lane; entry = entries.Reply reply }

-- a step by its name
abbrev pub named : Step → NamedStep
named step = record { name = name_of step.kind; word = step.word; before = step.before; after = step.after }

-- the step of this lane, where there is one, as lines
abbrev pub step_entries : ℕ → Option Step → List Line
step_entries lane None = []
step_entries lane (Some step) = record { lane = lane; entry = entries.Step (named step) } ∷ []

-- the lines of a turn
abbrev pub turn_lines : Turn → List Line
turn_lines t = map (reply_entry t.lane) t.before ++ step_entries t.lane t.step ++ map (reply_entry t.lane) t.after

-- the lines of some turns
abbrev pub trace_lines : List Turn → List Line
trace_lines turns = flat_map turn_lines turns
