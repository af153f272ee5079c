-- Where a text is that of no line, and where it is that of one.
use Rattle.std.proofs.Common.{◌≡◌, ◌≢◌, ℕ, List, [], ◌∷◌, ◌++◌, true, false, decimal, codes, refl, sym, ap, ◌∙◌, arith, subst, append_assoc}
use Rattle.keybits.specs.declared.step.Word.{Word}
use Rattle.keybits.specs.declared.step.Word.TheVariants as words
use Rattle.seqpool.specs.ActsText.{IsU32, IsKeyNumber, content_text}
use Rattle.seqpool.specs.ReadTexts.{Without, NothingHas, IsContent}
use Rattle.seqpool.proofs.Parts.{IsCut, lacks-Without, one-cut, uncut}
use Rattle.seqpool.proofs.Numbers.{IsNoNumber, key-Without, u32-Without}
use Rattle.seqpool.proofs.HexTexts.{content-Without}
use Rattle.traces.specs.Text.{reply_text, word_text}
use Rattle.traces.specs.declared.reply.Reply.{Reply}
use Rattle.traces.specs.declared.reply.Reply.TheVariants as replies
use Rattle.traceviews.specs.declared.fault.LineFault.{LineFault}
use Rattle.traceviews.specs.declared.fault.LineFault.TheVariants as line_faults
use Rattle.traceviews.specs.declared.line.Entry.{Entry}
use Rattle.traceviews.specs.declared.line.Entry.TheVariants as entries
use Rattle.traceviews.specs.declared.line.Line.{Line}
use Rattle.traceviews.specs.declared.line.NamedStep.{NamedStep}
use Rattle.traceviews.specs.declared.line.StepName.{StepName}
use Rattle.traceviews.specs.Lines.{IsStackWord, IsWordOf, IsNamedStep}
use Rattle.traceviews.specs.ReadLines.{Refuses, step_name_text, IsWordText, values_text, AreValues, operands_text, IsStepOf, IsPlainText, IsReplyText, HasOperand, entry_parts, IsEntryText, HasWord, IsLineText}
use Rattle.traceviews.proofs.LineTexts.{body-is, line-shape, name-Without, name-same, name-no_reply, word-Without}

-- a part is refused as a part of it is
pub refuses-as : {X Y : Type 0} (Has : X → List ℕ → Type 0) (Is : Y → List ℕ → Type 0) (part text : List ℕ)
    → (NothingHas Has part → NothingHas Is text) → (fault : LineFault) → Refuses Has part fault → Refuses Is text fault
refuses-as Has Is part text never (line_faults.Lacks wanted) refused = never refused
refuses-as Has Is part text never line_faults.Memory refused = tt

-- stacks

abbrev pub IsStackText : Word → List ℕ → Type 0
IsStackText word text = IsStackWord word × (text ≡ word_text word)

stack-parts : (shard lane : ℕ) → decimal shard ++ codes "." ++ decimal lane ≡ decimal shard ++ 46 ∷ decimal lane
stack-parts shard lane = append_assoc (decimal shard) (codes ".") (decimal lane)

pub stack-uncut : (text : List ℕ) → Without 46 text → NothingHas IsStackText text
stack-uncut text none (words.Life place) (is, written) = is
stack-uncut text none (words.Link place) (is, written) = is
stack-uncut text none (words.Stack shard lane) (is, written) =
    uncut 46 text (decimal shard) (decimal lane) none (written ∙ stack-parts shard lane)

stack-cut : (text a b : List ℕ) (shard lane : ℕ) → IsCut 46 text a b → IsU32 shard → text ≡ word_text (words.Stack shard lane)
    → (a ≡ decimal shard) × (b ≡ decimal lane)
stack-cut text a b shard lane (cuts, one) low written =
    one-cut 46 a b (decimal shard) (decimal lane) one (u32-Without 46 shard (omega arith) low) (sym cuts ∙ (written ∙ stack-parts shard lane))

pub stack-unsharded : (text a b : List ℕ) → IsCut 46 text a b → IsNoNumber 4294967295 a → NothingHas IsStackText text
stack-unsharded text a b cuts never (words.Life place) (is, written) = is
stack-unsharded text a b cuts never (words.Link place) (is, written) = is
stack-unsharded text a b cuts never (words.Stack shard lane) (is, written) = never shard is.0 (stack-cut text a b shard lane cuts is.0 written).0

pub stack-unlaned : (text a b : List ℕ) → IsCut 46 text a b → IsNoNumber 4294967295 b → NothingHas IsStackText text
stack-unlaned text a b cuts never (words.Life place) (is, written) = is
stack-unlaned text a b cuts never (words.Link place) (is, written) = is
stack-unlaned text a b cuts never (words.Stack shard lane) (is, written) = never lane is.1 (stack-cut text a b shard lane cuts is.0 written).1

pub stack-is : (text a b : List ℕ) (shard lane : ℕ) → text ≡ a ++ 46 ∷ b → a ≡ decimal shard → b ≡ decimal lane
    → text ≡ word_text (words.Stack shard lane)
stack-is text a b shard lane cuts front back =
    cuts ∙ (ap (λ (xs : List ℕ). xs ++ 46 ∷ b) front ∙ (ap (λ (xs : List ℕ). decimal shard ++ 46 ∷ xs) back ∙ sym (stack-parts shard lane)))

-- values

pub values-uncut : (text : List ℕ) → Without 32 text → NothingHas AreValues text
values-uncut text none (before, after) (low, small, written) = uncut 32 text (decimal before) (decimal after) none written

values-cut : (text a b : List ℕ) (before after : ℕ) → IsCut 32 text a b → IsKeyNumber before → text ≡ values_text before after
    → (a ≡ decimal before) × (b ≡ decimal after)
values-cut text a b before after (cuts, one) low written =
    one-cut 32 a b (decimal before) (decimal after) one (key-Without 32 before (omega arith) low) (sym cuts ∙ written)

pub values-no_before : (text a b : List ℕ) → IsCut 32 text a b → IsNoNumber 18446744073709551615 a → NothingHas AreValues text
values-no_before text a b cuts never (before, after) (low, small, written) =
    never before low (values-cut text a b before after cuts low written).0

pub values-no_after : (text a b : List ℕ) → IsCut 32 text a b → IsNoNumber 18446744073709551615 b → NothingHas AreValues text
values-no_after text a b cuts never (before, after) (low, small, written) =
    never after small (values-cut text a b before after cuts low written).1

-- steps

pub step-uncut : (name : StepName) (text : List ℕ) → Without 32 text → NothingHas (IsStepOf name) text
step-uncut name text none s (named, is, written) = uncut 32 text (word_text s.word) (values_text s.before s.after) none written

step-cut : (name : StepName) (text a b : List ℕ) (s : NamedStep) → IsCut 32 text a b → IsNamedStep s → text ≡ operands_text s
    → (a ≡ word_text s.word) × (b ≡ values_text s.before s.after)
step-cut name text a b s (cuts, one) is written =
    one-cut 32 a b (word_text s.word) (values_text s.before s.after) one (word-Without s.name s.word is.0) (sym cuts ∙ written)

pub step-no_word : (name : StepName) (text a b : List ℕ) → IsCut 32 text a b → NothingHas (IsWordText name) a
    → NothingHas (IsStepOf name) text
step-no_word name text a b cuts never s (named, is, written) =
    never s.word (subst (λ (n : StepName). IsWordOf n s.word) named is.0, (step-cut name text a b s cuts is written).0)

pub step-no_values : (name : StepName) (text a b : List ℕ) → IsCut 32 text a b → NothingHas AreValues b → NothingHas (IsStepOf name) text
step-no_values name text a b cuts never s (named, is, written) =
    never (s.before, s.after) (is.1, is.2, (step-cut name text a b s cuts is written).1)

-- replies

pub plain-has : (r : Reply) (text : List ℕ) → IsPlainText r text → IsReplyText r text
plain-has replies.Full text (is, written) = (tt, written)
plain-has replies.Memory text (is, written) = (tt, written)
plain-has replies.Done text (is, written) = (tt, written)
plain-has replies.Missing text (is, written) = (tt, written)
plain-has (replies.Cleared marked) text (is, written) = (tt, written)
plain-has replies.Skip text (is, written) = (tt, written)
plain-has (replies.Filling key) text (is, written) = absurd is
plain-has (replies.Key key) text (is, written) = absurd is
plain-has (replies.Found content) text (is, written) = absurd is
plain-has (replies.Content content) text (is, written) = absurd is

pub short-never : (text : List ℕ) → Without 32 text → NothingHas IsPlainText text → NothingHas IsContent text → NothingHas IsReplyText text
short-never text none plain content replies.Full (has, written) = plain replies.Full (tt, written)
short-never text none plain content replies.Memory (has, written) = plain replies.Memory (tt, written)
short-never text none plain content replies.Done (has, written) = plain replies.Done (tt, written)
short-never text none plain content replies.Missing (has, written) = plain replies.Missing (tt, written)
short-never text none plain content (replies.Cleared marked) (has, written) = plain (replies.Cleared marked) (tt, written)
short-never text none plain content replies.Skip (has, written) = plain replies.Skip (tt, written)
short-never text none plain content (replies.Filling key) (has, written) = uncut 32 text (codes "filling") (decimal key) none written
short-never text none plain content (replies.Key key) (has, written) = uncut 32 text (codes "key") (decimal key) none written
short-never text none plain content (replies.Found bytes) (has, written) = uncut 32 text (codes "some") (content_text bytes) none written
short-never text none plain content (replies.Content bytes) (has, written) = content bytes (has, written)

-- a reply of two parts, by its parts
abbrev IsLong : Reply → List ℕ → List ℕ → Type 0
IsLong (replies.Filling key) word operand = IsKeyNumber key × (word ≡ codes "filling") × (operand ≡ decimal key)
IsLong (replies.Key key) word operand = IsKeyNumber key × (word ≡ codes "key") × (operand ≡ decimal key)
IsLong (replies.Found content) word operand = IsContent content operand × (word ≡ codes "some")
IsLong (replies.Content content) word operand = ⊥
IsLong replies.Full word operand = ⊥
IsLong replies.Memory word operand = ⊥
IsLong replies.Done word operand = ⊥
IsLong replies.Missing word operand = ⊥
IsLong (replies.Cleared marked) word operand = ⊥
IsLong replies.Skip word operand = ⊥

long-parts : (word operand : List ℕ) (r : Reply) → Without 32 word → HasOperand word r operand → IsLong r word operand
long-parts word operand (replies.Filling key) one (has, written) =
    let cuts = one-cut 32 word operand (codes "filling") (decimal key) one (lacks-Without 32 (codes "filling") refl) written in
    (has, cuts.0, cuts.1)
long-parts word operand (replies.Key key) one (has, written) =
    let cuts = one-cut 32 word operand (codes "key") (decimal key) one (lacks-Without 32 (codes "key") refl) written in
    (has, cuts.0, cuts.1)
long-parts word operand (replies.Found content) one (has, written) =
    let cuts = one-cut 32 word operand (codes "some") (content_text content) one (lacks-Without 32 (codes "some") refl) written in
    ((has, cuts.1), cuts.0)
long-parts word operand (replies.Content content) one (has, written) =
    uncut 32 (content_text content) word operand (content-Without 32 content (omega arith)) (sym written)
long-parts word operand replies.Full one (has, written) = uncut 32 (codes "full") word operand (lacks-Without 32 (codes "full") refl) (sym written)
long-parts word operand replies.Memory one (has, written) = uncut 32 (codes "memory") word operand (lacks-Without 32 (codes "memory") refl) (sym written)
long-parts word operand replies.Done one (has, written) = uncut 32 (codes "ok") word operand (lacks-Without 32 (codes "ok") refl) (sym written)
long-parts word operand replies.Missing one (has, written) = uncut 32 (codes "none") word operand (lacks-Without 32 (codes "none") refl) (sym written)
long-parts word operand (replies.Cleared true) one (has, written) = uncut 32 (codes "true") word operand (lacks-Without 32 (codes "true") refl) (sym written)
long-parts word operand (replies.Cleared false) one (has, written) = uncut 32 (codes "false") word operand (lacks-Without 32 (codes "false") refl) (sym written)
long-parts word operand replies.Skip one (has, written) = uncut 32 (codes "skip") word operand (lacks-Without 32 (codes "skip") refl) (sym written)

long-refused : (word operand : List ℕ) (r : Reply) → (word ≡ codes "some" → NothingHas IsContent operand)
    → (word ≡ codes "filling" → IsNoNumber 18446744073709551615 operand) → (word ≡ codes "key" → IsNoNumber 18446744073709551615 operand)
    → IsLong r word operand → ⊥
long-refused word operand (replies.Filling key) some filling keyed (low, is, written) = filling is key low written
long-refused word operand (replies.Key key) some filling keyed (low, is, written) = keyed is key low written
long-refused word operand (replies.Found content) some filling keyed (has, is) = some is content has
long-refused word operand (replies.Content content) some filling keyed is = is
long-refused word operand replies.Full some filling keyed is = is
long-refused word operand replies.Memory some filling keyed is = is
long-refused word operand replies.Done some filling keyed is = is
long-refused word operand replies.Missing some filling keyed is = is
long-refused word operand (replies.Cleared marked) some filling keyed is = is
long-refused word operand replies.Skip some filling keyed is = is

-- a reply of two parts is refused where its parts are
pub long-never : (word operand : List ℕ) → Without 32 word → (word ≡ codes "some" → NothingHas IsContent operand)
    → (word ≡ codes "filling" → IsNoNumber 18446744073709551615 operand) → (word ≡ codes "key" → IsNoNumber 18446744073709551615 operand)
    → NothingHas (HasOperand word) operand
long-never word operand one some filling keyed r has = long-refused word operand r some filling keyed (long-parts word operand r one has)

-- a reply by its text, cut in two
pub reply-cut : (text word operand : List ℕ) → text ≡ word ++ 32 ∷ operand → (r : Reply) → HasOperand word r operand → IsReplyText r text
reply-cut text word operand is r (has, written) = (has, is ∙ written)

pub reply-uncut : (text word operand : List ℕ) → text ≡ word ++ 32 ∷ operand → NothingHas (HasOperand word) operand
    → NothingHas IsReplyText text
reply-uncut text word operand is never r (has, written) = never r (has, sym is ∙ written)

-- entries

pub entry-uncut : (text : List ℕ) → Without 32 text → NothingHas IsEntryText text
entry-uncut text none (entries.Step s) (has, written) = uncut 32 text (step_name_text s.name) (operands_text s) none written
entry-uncut text none (entries.Reply r) (has, written) = uncut 32 text (codes "=") (reply_text r) none written

pub entry-cut : (text word operands : List ℕ) → text ≡ word ++ 32 ∷ operands → (e : Entry) → HasWord word e operands → IsEntryText e text
entry-cut text word operands is e (has, written) = (has, is ∙ written)

pub entry-never : (text word operands : List ℕ) → text ≡ word ++ 32 ∷ operands → NothingHas (HasWord word) operands → NothingHas IsEntryText text
entry-never text word operands is never e (has, written) = never e (has, sym is ∙ written)

equals-Without : Without 32 (codes "=")
equals-Without = lacks-Without 32 (codes "=") refl

-- behind an equals sign stands a reply
pub entry-no_reply : (word operands : List ℕ) → Without 32 word → word ≡ codes "=" → NothingHas IsReplyText operands
    → NothingHas (HasWord word) operands
entry-no_reply word operands one is never (entries.Reply r) (has, written) =
    never r (has, (one-cut 32 word operands (codes "=") (reply_text r) one equals-Without written).1)
entry-no_reply word operands one is never (entries.Step s) (has, written) =
    name-no_reply s.name (sym is ∙ (one-cut 32 word operands (step_name_text s.name) (operands_text s) one (name-Without s.name) written).0)

-- another word is a step's name
pub entry-unnamed : (word operands : List ℕ) → Without 32 word → word ≢ codes "="
    → NothingHas (λ (name : StepName) text. text ≡ step_name_text name) word → NothingHas (HasWord word) operands
entry-unnamed word operands one other never (entries.Reply r) (has, written) =
    other (one-cut 32 word operands (codes "=") (reply_text r) one equals-Without written).0
entry-unnamed word operands one other never (entries.Step s) (has, written) =
    never s.name (one-cut 32 word operands (step_name_text s.name) (operands_text s) one (name-Without s.name) written).0

pub entry-no_step : (word operands : List ℕ) (name : StepName) → Without 32 word → word ≢ codes "=" → word ≡ step_name_text name
    → NothingHas (IsStepOf name) operands → NothingHas (HasWord word) operands
entry-no_step word operands name one other is never (entries.Reply r) (has, written) =
    other (one-cut 32 word operands (codes "=") (reply_text r) one equals-Without written).0
entry-no_step word operands name one other is never (entries.Step s) (has, written) =
    let cuts = one-cut 32 word operands (step_name_text s.name) (operands_text s) one (name-Without s.name) written in
    never s (name-same s.name name (sym cuts.0 ∙ is), has, cuts.1)

pub entry-reply : (word operands : List ℕ) (r : Reply) → word ≡ codes "=" → IsReplyText r operands → HasWord word (entries.Reply r) operands
entry-reply word operands r is (has, written) =
    (has, ap (λ (xs : List ℕ). xs ++ 32 ∷ operands) is ∙ ap (λ (xs : List ℕ). codes "=" ++ 32 ∷ xs) written)

pub entry-step : (word operands : List ℕ) (name : StepName) (s : NamedStep) → word ≡ step_name_text name → IsStepOf name s operands
    → HasWord word (entries.Step s) operands
entry-step word operands name s is (named, has, written) = (
  has,
  ap (λ (xs : List ℕ). xs ++ 32 ∷ operands) (is ∙ ap step_name_text (sym named)) ∙ ap (λ (xs : List ℕ). step_name_text s.name ++ 32 ∷ xs) written,
)

-- lines

pub line-uncut : (text : List ℕ) → Without 10 text → Without 32 text → NothingHas IsLineText text
line-uncut text line none l is = uncut 32 text (decimal l.lane) (entry_parts l.entry) none (body-is l text line is)

line-cut : (text a b : List ℕ) (l : Line) → Without 10 text → IsCut 32 text a b → IsLineText l text
    → (a ≡ decimal l.lane) × (b ≡ entry_parts l.entry)
line-cut text a b l line (cuts, one) is =
    one-cut 32 a b (decimal l.lane) (entry_parts l.entry) one (u32-Without 32 l.lane (omega arith) is.0.0) (sym cuts ∙ body-is l text line is)

pub line-unlaned : (text a b : List ℕ) → Without 10 text → IsCut 32 text a b → IsNoNumber 4294967295 a → NothingHas IsLineText text
line-unlaned text a b line cuts never l is = never l.lane is.0.0 (line-cut text a b l line cuts is).0

pub line-unentered : (text a b : List ℕ) → Without 10 text → IsCut 32 text a b → NothingHas IsEntryText b → NothingHas IsLineText text
line-unentered text a b line cuts never l is = never l.entry (is.0.1, (line-cut text a b l line cuts is).1)

pub line-is : (text a b : List ℕ) (l : Line) → text ≡ a ++ 32 ∷ b → IsU32 l.lane → a ≡ decimal l.lane → IsEntryText l.entry b
    → IsLineText l text
line-is text a b l cuts low front (has, back) = (
  (low, has),
  ap (λ (xs : List ℕ). xs ++ 10 ∷ [])
      (cuts ∙ (ap (λ (xs : List ℕ). xs ++ 32 ∷ b) front ∙ ap (λ (xs : List ℕ). decimal l.lane ++ 32 ∷ xs) back)) ∙ sym (line-shape l),
)
