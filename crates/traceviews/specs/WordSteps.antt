-- Whether the words of a trace follow from one another.
use Rattle.std.specs.Prelude.{◌≡◌, ◌≢◌, ◌==◌, ℕ, ◌+◌, Bool, false, List, [], ◌∷◌, ◌++◌, length, codes, if◌then◌else◌}
use Rattle.keybits.specs.Steps.{Changes}
use Rattle.keybits.specs.Words.{state_in, generation_in}
use Rattle.keybits.specs.declared.step.Kind.TheVariants.{Enter, Leave, Publish, Mark, Claim, Link, Push, Take, Follow}
use Rattle.steplaws.specs.Facts.{Words, value_of, with_value}
use Rattle.traces.specs.Lawful.{first_words}
use Rattle.traceviews.specs.Summaries.{counts_line}
use Rattle.traceviews.specs.declared.following.Wrong.{Wrong}
use Rattle.traceviews.specs.declared.following.Wrong.TheVariants as wrongs
use Rattle.traceviews.specs.declared.line.Entry.{Entry}
use Rattle.traceviews.specs.declared.line.Entry.TheVariants as entries
use Rattle.traceviews.specs.declared.line.Line.{Line}
use Rattle.traceviews.specs.declared.line.StepName.{StepName}
use Rattle.traceviews.specs.declared.line.StepName.TheVariants as names

-- by the step relation a step of this name, with some operands, may find the one value and leave the other, where the last generation is last
abbrev pub MayLeave : ℕ → StepName → ℕ → ℕ → Type 0
MayLeave last names.Enter before after = Changes last Enter before after
MayLeave last names.Leave before after = Changes last Leave before after
MayLeave last names.Publish before after = (with_ref : Bool) × Changes last (Publish with_ref) before after
MayLeave last names.Mark before after = Changes last Mark before after
MayLeave last names.Claim before after = (generation : ℕ) × Changes last (Claim generation) before after
MayLeave last names.Link before after = (expected : ℕ) × Changes last (Link expected) before after
MayLeave last names.Push before after = (expected : ℕ) × (link : ℕ) × Changes last (Push expected link) before after
MayLeave last names.Take before after = Changes last Take before after
MayLeave last names.Follow before after = Changes last Follow before after

-- an entry follows from these words: a step finds what its word has, and may leave what it leaves; a reply says nothing of words
abbrev pub Follows : ℕ → Words → Entry → Type 0
Follows last words (entries.Step s) = (s.before ≡ value_of words s.word) × MayLeave last s.name s.before s.after
Follows last words (entries.Reply r) = Unit {0}

-- an entry doesn't follow: its step finds another value than its word has; or it finds that, and can't leave what it leaves
abbrev pub IsWrong : ℕ → Words → Entry → Wrong → Type 0
IsWrong last words (entries.Step s) (wrongs.Before had) = (had ≡ value_of words s.word) × (s.before ≢ had)
IsWrong last words (entries.Step s) wrongs.After = (s.before ≡ value_of words s.word) × (MayLeave last s.name s.before s.after → ⊥)
IsWrong last words (entries.Reply r) wrong = ⊥

-- the words behind an entry
abbrev pub words_behind : Words → Entry → Words
words_behind words (entries.Step s) = with_value words s.word s.after
words_behind words (entries.Reply r) = words

-- the words behind some lines
abbrev pub words_from : Words → List Line → Words
words_from words [] = words
words_from words (line ∷ more) = words_from (words_behind words line.entry) more

-- the lines follow from one another, from these words on
abbrev pub FollowFrom : ℕ → Words → List Line → Type 0
FollowFrom last words [] = Unit {0}
FollowFrom last words (line ∷ more) = Follows last words line.entry × FollowFrom last (words_behind words line.entry) more

-- a claim leaves its place retired
abbrev pub retires : StepName → ℕ → Bool
retires names.Claim after = state_in after == 2
retires name after = false

-- the last generation as the lines tell it: that in which a claim first leaves a place retired; without such a claim one that no word has
abbrev pub last_by : Entry → ℕ → ℕ
last_by (entries.Step s) later = if retires s.name s.after then generation_in s.after else later
last_by (entries.Reply r) later = later

abbrev pub last_told : List Line → ℕ
last_told [] = 4294967296
last_told (line ∷ more) = last_by line.entry (last_told more)

-- the lines of a trace follow from one another: the first step on a word finds its first value
abbrev pub AreFollowing : List Line → Type 0
AreFollowing lines = FollowFrom (last_told lines) first_words lines

-- the line of this number, counted from 1, is the first that doesn't follow
pub record IsFirstStray (number : ℕ) (wrong : Wrong) (lines : List Line) : Type 0 where
  pub front : List Line
  pub line : Line
  pub behind : List Line
  pub parts : lines ≡ front ++ line ∷ behind
  pub counted : number ≡ length front + 1
  pub follow : FollowFrom (last_told lines) first_words front
  pub stray : IsWrong (last_told lines) (words_from first_words front) line.entry wrong

-- what is said of lines that follow: how many turns and lines they are
abbrev pub follows_text : List Line → List ℕ
follows_text lines = codes "follows " ++ counts_line lines
