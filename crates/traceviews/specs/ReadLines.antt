-- What the readers of a line's parts answer.
use Rattle.std.specs.Prelude.{◌≡◌, ℕ, List, ◌∷◌, [], ◌++◌, Result, MatchResult, decimal, codes}
use Rattle.keybits.specs.declared.step.Word.{Word}
use Rattle.seqpool.specs.ActsText.{IsKeyNumber}
use Rattle.seqpool.specs.ReadTexts.{spaced, NothingHas}
use Rattle.traces.specs.Text.{reply_text, kind_text, word_text}
use Rattle.traces.specs.declared.reply.Reply.{Reply}
use Rattle.traces.specs.declared.reply.Reply.TheVariants as replies
use Rattle.traceviews.specs.declared.line.Entry.{Entry}
use Rattle.traceviews.specs.declared.line.Entry.TheVariants as entries
use Rattle.traceviews.specs.declared.line.Line.{Line}
use Rattle.traceviews.specs.declared.line.NamedStep.{NamedStep}
use Rattle.traceviews.specs.declared.line.StepName.{StepName}
use Rattle.traceviews.specs.declared.fault.LineFault.{LineFault}
use Rattle.traceviews.specs.declared.fault.LineFault.TheVariants as line_faults
use Rattle.traceviews.specs.declared.fault.Wanted.{Wanted}
use Rattle.traceviews.specs.Lines.{kind_of, line_text, IsWordOf, IsNamedStep, HasReply, HasEntry, HasLine}

-- where a value has this text, it is found, and else it is said what is wanted
abbrev pub Yields : {T : Type 0} → (T → List ℕ → Type 0) → List ℕ → Result T Wanted → Type 0
Yields HasText text found = MatchResult found (λ x. HasText x text) (λ _. NothingHas HasText text)

-- a part is refused where no value has its text; of want of memory nothing is said
abbrev pub Refuses : {T : Type 0} → (T → List ℕ → Type 0) → List ℕ → LineFault → Type 0
Refuses HasText text (line_faults.Lacks wanted) = NothingHas HasText text
Refuses HasText text line_faults.Memory = Unit {0}

-- where a value has this text, it is read, unless memory was refused
abbrev pub Reads : {T : Type 0} → (T → List ℕ → Type 0) → List ℕ → Result T LineFault → Type 0
Reads HasText text read = MatchResult read (λ x. HasText x text) (Refuses HasText text)

-- the name of a step
abbrev pub step_name_text : StepName → List ℕ
step_name_text name = kind_text (kind_of name)

-- a word of steps of this name
abbrev pub IsWordText : StepName → Word → List ℕ → Type 0
IsWordText name word text = IsWordOf name word × (text ≡ word_text word)

-- the values of a step's word before and after it
abbrev pub values_text : ℕ → ℕ → List ℕ
values_text before after = spaced (decimal before) (decimal after)

abbrev pub AreValues : ℕ × ℕ → List ℕ → Type 0
AreValues (before, after) text = IsKeyNumber before × IsKeyNumber after × (text ≡ values_text before after)

-- what stands behind the name of a step
abbrev pub operands_text : NamedStep → List ℕ
operands_text s = spaced (word_text s.word) (values_text s.before s.after)

-- a step of this name, by what stands behind the name
abbrev pub IsStepOf : StepName → NamedStep → List ℕ → Type 0
IsStepOf name s text = (s.name ≡ name) × IsNamedStep s × (text ≡ operands_text s)

-- a reply that is one word of its own
abbrev pub IsPlain : Reply → Type 0
IsPlain replies.Full = Unit {0}
IsPlain replies.Memory = Unit {0}
IsPlain replies.Done = Unit {0}
IsPlain replies.Missing = Unit {0}
IsPlain (replies.Cleared marked) = Unit {0}
IsPlain replies.Skip = Unit {0}
IsPlain (replies.Filling key) = ⊥
IsPlain (replies.Key key) = ⊥
IsPlain (replies.Found content) = ⊥
IsPlain (replies.Content content) = ⊥

-- a reply by one word
abbrev pub IsPlainText : Reply → List ℕ → Type 0
IsPlainText reply text = IsPlain reply × (text ≡ reply_text reply)

-- a reply by its text
abbrev pub IsReplyText : Reply → List ℕ → Type 0
IsReplyText reply text = HasReply reply × (text ≡ reply_text reply)

-- a reply by what stands behind its first word
abbrev pub HasOperand : List ℕ → Reply → List ℕ → Type 0
HasOperand word reply text = HasReply reply × (spaced word text ≡ reply_text reply)

-- what stands behind the lane
abbrev pub entry_parts : Entry → List ℕ
entry_parts (entries.Step s) = spaced (step_name_text s.name) (operands_text s)
entry_parts (entries.Reply r) = spaced (codes "=") (reply_text r)

-- an entry by what stands behind the lane
abbrev pub IsEntryText : Entry → List ℕ → Type 0
IsEntryText entry text = HasEntry entry × (text ≡ entry_parts entry)

-- an entry by what stands behind its first word
abbrev pub HasWord : List ℕ → Entry → List ℕ → Type 0
HasWord word entry text = HasEntry entry × (spaced word text ≡ entry_parts entry)

-- a line, without its line feed
abbrev pub IsLineText : Line → List ℕ → Type 0
IsLineText line text = HasLine line × (text ++ 10 ∷ [] ≡ line_text line)
