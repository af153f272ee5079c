-- The lines of a trace, by their parts.
use Rattle.std.proofs.Common.{◌≡◌, ℕ, ◌<◌, List, [], ◌∷◌, ◌++◌, true, false, cond, decimal, codes, refl, sym, ap, ◌∙◌, arith, append_assoc}
use Rattle.std.specs.Str.{bytes_eq}
use Rattle.keybits.specs.declared.step.Word.{Word}
use Rattle.keybits.specs.declared.step.Word.TheVariants as words
use Rattle.seqpool.specs.ActsText.{IsU32, IsKeyNumber, IsPlaceNumber, content_text}
use Rattle.seqpool.specs.ReadTexts.{Without, spaced}
use Rattle.seqpool.proofs.Parts.{Without-append, spaced-Without, lacks, lacks-Without, one-cut}
use Rattle.seqpool.proofs.Numbers.{u32-Without, key-Without, place-Without}
use Rattle.seqpool.proofs.HexTexts.{content-Without}
use Rattle.traces.specs.Text.{reply_text, kind_text, word_text}
use Rattle.traces.specs.declared.reply.Reply.{Reply}
use Rattle.traces.specs.declared.reply.Reply.TheVariants as replies
use Rattle.traceviews.specs.declared.line.Entry.{Entry}
use Rattle.traceviews.specs.declared.line.Entry.TheVariants as entries
use Rattle.traceviews.specs.declared.line.Line.{Line}
use Rattle.traceviews.specs.declared.line.NamedStep.{NamedStep}
use Rattle.traceviews.specs.declared.line.StepName.{StepName}
use Rattle.traceviews.specs.declared.line.StepName.TheVariants as names
use Rattle.traceviews.specs.Lines.{entry_text, line_text, kind_of, IsLifeWord, IsLinkWord, IsStackWord, IsWordOf, IsNamedStep, HasReply, HasEntry, HasLine}
use Rattle.traceviews.specs.ReadLines.{step_name_text, values_text, operands_text, entry_parts, IsLineText}

step_shape : (a k w x y : List ℕ)
    → a ++ codes " " ++ k ++ codes " " ++ w ++ codes " " ++ x ++ codes " " ++ y ++ codes "\n"
    ≡ spaced a (spaced k (spaced w (spaced x y))) ++ 10 ∷ []
step_shape a k w x y = simp append_assoc

reply_shape : (a r : List ℕ) → a ++ codes " = " ++ r ++ codes "\n" ≡ spaced a (spaced (codes "=") r) ++ 10 ∷ []
reply_shape a r = simp append_assoc

-- a line without its line feed
abbrev pub body : Line → List ℕ
body l = spaced (decimal l.lane) (entry_parts l.entry)

entry-shape : (lane : ℕ) (entry : Entry) → entry_text lane entry ≡ spaced (decimal lane) (entry_parts entry) ++ 10 ∷ []
entry-shape lane (entries.Step s) = step_shape (decimal lane) (kind_text (kind_of s.name)) (word_text s.word) (decimal s.before) (decimal s.after)
entry-shape lane (entries.Reply r) = reply_shape (decimal lane) (reply_text r)

pub line-shape : (l : Line) → line_text l ≡ body l ++ 10 ∷ []
line-shape l = entry-shape l.lane l.entry

pub lined : (l : Line) (more : List ℕ) → line_text l ++ more ≡ body l ++ 10 ∷ more
lined l more = ap (λ (xs : List ℕ). xs ++ more) (line-shape l) ∙ append_assoc (body l) (10 ∷ []) more

-- a name has no space and no line feed, and is that of one kind of step

name-lacks : (name : StepName) → (lacks 32 (step_name_text name) ≡ true) × (lacks 10 (step_name_text name) ≡ true)
name-lacks names.Enter = (refl, refl)
name-lacks names.Leave = (refl, refl)
name-lacks names.Publish = (refl, refl)
name-lacks names.Mark = (refl, refl)
name-lacks names.Claim = (refl, refl)
name-lacks names.Link = (refl, refl)
name-lacks names.Push = (refl, refl)
name-lacks names.Take = (refl, refl)
name-lacks names.Follow = (refl, refl)

pub name-Without : (name : StepName) → Without 32 (step_name_text name)
name-Without name = lacks-Without 32 (step_name_text name) (name-lacks name).0

name_in : List ℕ → StepName
name_in text =
    cond (bytes_eq text (codes "ENTER")) names.Enter (cond (bytes_eq text (codes "LEAVE")) names.Leave
    (cond (bytes_eq text (codes "PUBLISH")) names.Publish (cond (bytes_eq text (codes "MARK")) names.Mark
    (cond (bytes_eq text (codes "CLAIM")) names.Claim (cond (bytes_eq text (codes "LINK")) names.Link
    (cond (bytes_eq text (codes "PUSH")) names.Push (cond (bytes_eq text (codes "TAKE")) names.Take names.Follow)))))))

name_in-text : (name : StepName) → name_in (step_name_text name) ≡ name
unfolding name_in
name_in-text names.Enter = refl
name_in-text names.Leave = refl
name_in-text names.Publish = refl
name_in-text names.Mark = refl
name_in-text names.Claim = refl
name_in-text names.Link = refl
name_in-text names.Push = refl
name_in-text names.Take = refl
name_in-text names.Follow = refl

pub name-same : (name other : StepName) → step_name_text name ≡ step_name_text other → name ≡ other
name-same name other is = sym (name_in-text name) ∙ (ap name_in is ∙ name_in-text other)

pub name-no_reply : (name : StepName) → codes "=" ≡ step_name_text name → ⊥
name-no_reply names.Enter is = absurd (cc)
name-no_reply names.Leave is = absurd (cc)
name-no_reply names.Publish is = absurd (cc)
name-no_reply names.Mark is = absurd (cc)
name-no_reply names.Claim is = absurd (cc)
name-no_reply names.Link is = absurd (cc)
name-no_reply names.Push is = absurd (cc)
name-no_reply names.Take is = absurd (cc)
name-no_reply names.Follow is = absurd (cc)

-- the numbers of a word are within their ranges
abbrev pub IsNumbered : Word → Type 0
IsNumbered (words.Life place) = IsPlaceNumber place
IsNumbered (words.Link place) = IsPlaceNumber place
IsNumbered (words.Stack shard lane) = IsU32 shard × IsU32 lane

life-numbered : (word : Word) → IsLifeWord word → IsNumbered word
life-numbered (words.Life place) is = is
life-numbered (words.Link place) is = absurd is
life-numbered (words.Stack shard lane) is = absurd is

link-numbered : (word : Word) → IsLinkWord word → IsNumbered word
link-numbered (words.Life place) is = absurd is
link-numbered (words.Link place) is = is
link-numbered (words.Stack shard lane) is = absurd is

stack-numbered : (word : Word) → IsStackWord word → IsNumbered word
stack-numbered (words.Life place) is = absurd is
stack-numbered (words.Link place) is = absurd is
stack-numbered (words.Stack shard lane) is = is

word-numbered : (name : StepName) (word : Word) → IsWordOf name word → IsNumbered word
word-numbered names.Enter word is = life-numbered word is
word-numbered names.Leave word is = life-numbered word is
word-numbered names.Publish word is = life-numbered word is
word-numbered names.Mark word is = life-numbered word is
word-numbered names.Claim word is = life-numbered word is
word-numbered names.Link word is = link-numbered word is
word-numbered names.Push word is = stack-numbered word is
word-numbered names.Take word is = stack-numbered word is
word-numbered names.Follow word is = link-numbered word is

numbered-Without : (separator : ℕ) (word : Word) → separator < 46 → IsNumbered word → Without separator (word_text word)
numbered-Without separator (words.Life place) low is = place-Without separator place (omega arith) is
numbered-Without separator (words.Link place) low is = place-Without separator place (omega arith) is
numbered-Without separator (words.Stack shard lane) low is =
    Without-append separator (decimal shard ++ codes ".") (decimal lane)
    (Without-append separator (decimal shard) (codes ".") (u32-Without separator shard (omega arith) is.0) ((λ same. omega (arith, same)), tt))
    (u32-Without separator lane (omega arith) is.1)

pub word-Without : (name : StepName) (word : Word) → IsWordOf name word → Without 32 (word_text word)
word-Without name word is = numbered-Without 32 word (omega arith) (word-numbered name word is)

-- no part of a line has a line feed

values-Without : (before after : ℕ) → IsKeyNumber before → IsKeyNumber after → Without 10 (values_text before after)
values-Without before after low small =
    spaced-Without 10 (decimal before) (decimal after) (omega arith) (key-Without 10 before (omega arith) low)
    (key-Without 10 after (omega arith) small)

operands-Without : (s : NamedStep) → IsNamedStep s → Without 10 (operands_text s)
operands-Without s is =
    spaced-Without 10 (word_text s.word) (values_text s.before s.after) (omega arith)
    (numbered-Without 10 s.word (omega arith) (word-numbered s.name s.word is.0)) (values-Without s.before s.after is.1 is.2)

reply-Without : (r : Reply) → HasReply r → Without 10 (reply_text r)
reply-Without (replies.Filling key) has =
    Without-append 10 (codes "filling ") (decimal key) (lacks-Without 10 (codes "filling ") refl) (key-Without 10 key (omega arith) has)
reply-Without (replies.Key key) has =
    Without-append 10 (codes "key ") (decimal key) (lacks-Without 10 (codes "key ") refl) (key-Without 10 key (omega arith) has)
reply-Without (replies.Found content) has =
    Without-append 10 (codes "some ") (content_text content) (lacks-Without 10 (codes "some ") refl) (content-Without 10 content (omega arith))
reply-Without (replies.Content content) has = content-Without 10 content (omega arith)
reply-Without replies.Full has = lacks-Without 10 (codes "full") refl
reply-Without replies.Memory has = lacks-Without 10 (codes "memory") refl
reply-Without replies.Done has = lacks-Without 10 (codes "ok") refl
reply-Without replies.Missing has = lacks-Without 10 (codes "none") refl
reply-Without (replies.Cleared true) has = lacks-Without 10 (codes "true") refl
reply-Without (replies.Cleared false) has = lacks-Without 10 (codes "false") refl
reply-Without replies.Skip has = lacks-Without 10 (codes "skip") refl

parts-Without : (entry : Entry) → HasEntry entry → Without 10 (entry_parts entry)
parts-Without (entries.Step s) has =
    spaced-Without 10 (step_name_text s.name) (operands_text s) (omega arith)
    (lacks-Without 10 (step_name_text s.name) (name-lacks s.name).1) (operands-Without s has)
parts-Without (entries.Reply r) has =
    spaced-Without 10 (codes "=") (reply_text r) (omega arith) (lacks-Without 10 (codes "=") refl) (reply-Without r has)

pub body-Without : (l : Line) → HasLine l → Without 10 (body l)
body-Without l has =
    spaced-Without 10 (decimal l.lane) (entry_parts l.entry) (omega arith) (u32-Without 10 l.lane (omega arith) has.0)
    (parts-Without l.entry has.1)

-- a line's text without a line feed is its body
pub body-is : (l : Line) (text : List ℕ) → Without 10 text → IsLineText l text → text ≡ body l
body-is l text none (has, is) = (one-cut 10 text [] (body l) [] none (body-Without l has) (is ∙ line-shape l)).0

-- the first line of what begins with a line is that line
pub first-line : (l : Line) (line after more : List ℕ) → HasLine l → Without 10 line → line ++ 10 ∷ after ≡ line_text l ++ more
    → IsLineText l line × (after ≡ more)
first-line l line after more has none is =
    let cuts = one-cut 10 line after (body l) more none (body-Without l has) (is ∙ lined l more) in
    ((has, ap (λ (xs : List ℕ). xs ++ 10 ∷ []) cuts.0 ∙ sym (line-shape l)), cuts.1)
