-- Laws that tell the turns of a lawful trace one by one: what each step finds in its word, and how a lane goes through its script.
use Rattle.std.specs.Prelude.{◌≡◌, ◌≢◌, ◌==◌, ◌⊎◌, ◌↔◌, ℕ, Bool, true, false, nat_lt, List, [], ◌∷◌, ◌++◌, map, flat_map, Option, Some, None, slice_get, if◌then◌else◌}
use mathlib.Core.List.{IsPrefix}
use Rattle.keybits.specs.declared.shape.Shape.{Shape}
use Rattle.keybits.specs.declared.step.Step.{Step}
use Rattle.keybits.specs.declared.step.Word.{Word}
use Rattle.keybits.specs.Places.{place_at}
use Rattle.keybits.specs.Keys.{key_number, is_key}
use Rattle.seqpool.specs.declared.act.Act.{Act}
use Rattle.seqpool.specs.declared.act.Act.TheVariants as acts
use Rattle.seqpool.specs.Pool.{with, pool_after, IsLegal}
use Rattle.seqpool.specs.Histories.{PublishedAt, acts_of}
use Rattle.steplaws.specs.Calls.{Call, Publishing, Getting, Releasing, Clearing, Creating, Caller, AreSteps, next_step}
use Rattle.steplaws.specs.Facts.{value_of}
use Rattle.traces.specs.declared.script.Register.{Register}
use Rattle.traces.specs.declared.script.Operand.{Operand}
use Rattle.traces.specs.declared.script.Operand.TheVariants.{Number, LastOf}
use Rattle.traces.specs.declared.script.Command.{Command}
use Rattle.traces.specs.declared.script.Command.TheVariants.{Create, Write, Publish, Downgrade, Get, Read, Release, Clear}
use Rattle.traces.specs.declared.reply.Reply.{Reply}
use Rattle.traces.specs.declared.reply.Reply.TheVariants as replies
use Rattle.traces.specs.declared.trace.Turn.{Turn}
use Rattle.traces.specs.Books.{Free, free_with, free_left, act_list, taken, reclaimed, of_shard, handed_first, pushed_after}
use Rattle.traces.specs.Lawful.{first_words, script_or_none, IsLawful}
use Rattle.traces.specs.Making.{AreMade}

-- ---- what a step finds

-- the step of a turn, as a list
abbrev pub step_list : Option Step → List Step
step_list None = []
step_list (Some step) = step ∷ []

-- the steps of these turns, in order
abbrev pub all_steps : List Turn → List Step
all_steps [] = []
all_steps (t ∷ more) = step_list t.step ++ all_steps more

-- none of these steps is on this word
abbrev pub AreElsewhere : Word → List Step → Type 0
AreElsewhere word [] = Unit {0}
AreElsewhere word (step ∷ more) = (step.word ≢ word) × AreElsewhere word more

-- the first step on a word finds the word's first value
abbrev pub FirstStepLaw : Type 0
FirstStepLaw = (z : Shape) (scripts : List (List Command)) (schedule : List ℕ) (trace : List Turn) → IsLawful z scripts schedule trace
    → (before more : List Step) (step : Step) → all_steps trace ≡ before ++ step ∷ more
    → AreElsewhere step.word before → step.before ≡ value_of first_words step.word

-- every later one, whichever lane makes it, finds what the last step on the word left there
abbrev pub NextStepLaw : Type 0
NextStepLaw = (z : Shape) (scripts : List (List Command)) (schedule : List ℕ) (trace : List Turn) → IsLawful z scripts schedule trace
    → (before between more : List Step) (last step : Step) → all_steps trace ≡ before ++ last ∷ (between ++ step ∷ more)
    → last.word ≡ step.word → AreElsewhere step.word between → step.before ≡ last.after

-- ---- what a lane does

-- the acts of these turns, in order
abbrev pub all_acts : List Turn → List Act
all_acts [] = []
all_acts (t ∷ more) = act_list t.act ++ all_acts more

-- the replies of these turns, in order
abbrev pub all_replies : List Turn → List Reply
all_replies [] = []
all_replies (t ∷ more) = t.before ++ t.after ++ all_replies more

-- the turns of a lane, in order
abbrev pub turns_of : ℕ → List Turn → List Turn
turns_of lane [] = []
turns_of lane (t ∷ more) = if t.lane == lane then t ∷ turns_of lane more else turns_of lane more

-- the acts of a lawful trace, in order, are a legal history of the pool of one thread
abbrev pub ActsLaw : Type 0
ActsLaw = (z : Shape) (scripts : List (List Command)) (schedule : List ℕ) (trace : List Turn) → IsLawful z scripts schedule trace
    → IsLegal z (all_acts trace)

-- the acts of a lane in that history are those of its turns
abbrev pub LaneActsLaw : Type 0
LaneActsLaw = (z : Shape) (scripts : List (List Command)) (schedule : List ℕ) (trace : List Turn) → IsLawful z scripts schedule trace
    → (lane : ℕ) → acts_of lane (all_acts trace) ≡ all_acts (turns_of lane trace)

-- a command that is done: the steps of its call, the acts that they made, and its reply
pub record DoneCommand : Type 0 where
  pub command : Command
  pub steps : List Step
  pub acts : List Act
  pub reply : Reply

-- ---- which key a register had last, and what was written to it

-- the key of the Get of these acts
abbrev pub key_got : List Act → Option ℕ
key_got [] = None
key_got (acts.Get lane key reply ∷ more) = Some key
key_got (act ∷ more) = key_got more

-- the key that a command and its reply gave to the register of this number: a create that made a filling, or a get that found its key
abbrev pub given_by : ℕ → Command → Reply → List Act → Option ℕ
given_by number (Create register) (replies.Filling key) made = if register.number == number then Some key else None
given_by number (Get register operand) (replies.Found content) made = if register.number == number then key_got made else None
given_by number command reply made = None

-- the key that a done command gave to the register of this number
abbrev pub given : ℕ → DoneCommand → Option ℕ
given number d = given_by number d.command d.reply d.acts

-- none of these commands gave a key to the register of this number
abbrev pub GiveNone : ℕ → List DoneCommand → Type 0
GiveNone number [] = Unit {0}
GiveNone number (d ∷ more) = (given number d ≡ None) × GiveNone number more

-- the last key that these commands gave to the register of this number is this one
abbrev pub HasLast : List DoneCommand → ℕ → ℕ → Type 0
HasLast older number key = (before : List DoneCommand) × (giver : DoneCommand) × (between : List DoneCommand)
    × (older ≡ before ++ giver ∷ between) × (given number giver ≡ Some key) × GiveNone number between

-- the bytes that a command writes to the register of this number
abbrev pub bytes_to : ℕ → Command → List ℕ
bytes_to number (Write register bytes) = if register.number == number then bytes else []
bytes_to number command = []

-- the bytes that these commands write to the register of this number, in order
abbrev pub all_bytes_to : ℕ → List DoneCommand → List ℕ
all_bytes_to number [] = []
all_bytes_to number (d ∷ more) = bytes_to number d.command ++ all_bytes_to number more

-- the command made a filling of this key in the register of this number
abbrev pub Creates : ℕ → ℕ → DoneCommand → Type 0
Creates number key d = (register : Register) × (d.command ≡ Create register) × (register.number ≡ number) × (d.reply ≡ replies.Filling key)

-- the register of this number had this key last, from a create, and this content was written to it since
abbrev pub IsWritten : List DoneCommand → ℕ → ℕ → List ℕ → Type 0
IsWritten older number key content = (before : List DoneCommand) × (creator : DoneCommand) × (between : List DoneCommand)
    × (older ≡ before ++ creator ∷ between) × Creates number key creator × GiveNone number between × (content ≡ all_bytes_to number between)

-- ---- the call of a command

-- an operand names this key, after these commands
abbrev pub Names : List DoneCommand → Operand → ℕ → Type 0
Names older (Number number) key = key ≡ number
Names older (LastOf register) key = HasLast older register.number key

-- what a register is used for: nothing, a filling or a reference
pub data Usage : Type 0 where
  unused : Usage
  has_filling : Usage
  has_reference : Usage

-- the use of the register of this number after a command and its reply: create and get take it, downgrade makes a reference of its filling,
-- publish and release free it
abbrev pub usage_by : ℕ → Command → Reply → Usage → Usage
usage_by number (Create register) (replies.Filling key) before = if register.number == number then has_filling else before
usage_by number (Publish register) (replies.Key key) before = if register.number == number then unused else before
usage_by number (Downgrade register) (replies.Key key) before = if register.number == number then has_reference else before
usage_by number (Get register operand) (replies.Found content) before = if register.number == number then has_reference else before
usage_by number (Release register) replies.Done before = if register.number == number then unused else before
usage_by number command reply before = before

-- its use after these commands, from this use on
abbrev pub usage_after : ℕ → Usage → List DoneCommand → Usage
usage_after number usage [] = usage
usage_after number usage (d ∷ more) = usage_after number (usage_by number d.command d.reply usage) more

-- its use after these commands, which are the lane's first
abbrev pub usage_of : List DoneCommand → ℕ → Usage
usage_of older number = usage_after number unused older

-- what a command needs, after these: its register, in this use, and a key where it names one
abbrev pub Needs : List DoneCommand → Command → Type 0
Needs older (Create register) = usage_of older register.number ≡ unused
Needs older (Write register bytes) = usage_of older register.number ≡ has_filling
Needs older (Publish register) = usage_of older register.number ≡ has_filling
Needs older (Downgrade register) = usage_of older register.number ≡ has_filling
Needs older (Get register operand) = (usage_of older register.number ≡ unused) × ((key : ℕ) × Names older operand key)
Needs older (Read register) = usage_of older register.number ≡ has_reference
Needs older (Release register) = usage_of older register.number ≡ has_reference
Needs older (Clear operand) = (key : ℕ) × Names older operand key

-- the lane's free places after one command more: a place of its own shard that was reclaimed goes to the end of its list
abbrev pub free_next : Shape → ℕ → Free → DoneCommand → Free
free_next z lane free d =
    let left = free_left z lane free d.command d.reply d.acts in
    free_with (left.own ++ of_shard lane (reclaimed z.last_generation d.acts)) left.chain left.opened

-- its free places after these commands, from these on
abbrev pub free_from : Shape → ℕ → Free → List DoneCommand → Free
free_from z lane free [] = free
free_from z lane free (d ∷ more) = free_from z lane (free_next z lane free d) more

-- its free places after these commands, which are the lane's first: before them it has no place, and no page is opened
abbrev pub free_of : Shape → ℕ → List DoneCommand → Free
free_of z lane older = free_from z lane (free_with [] [] 0) older

-- the call of a command, after these: create is of the lane's free places, publish and downgrade are of what was written to the register since its
-- create, release of the last key that it had
abbrev pub IsCallOf : Shape → ℕ → List DoneCommand → Command → Call → Type 0
IsCallOf z lane older (Create register) (Creating own chain opened) = free_of z lane older ≡ free_with own chain opened
IsCallOf z lane older (Publish register) (Publishing key content with_ref) = IsWritten older register.number key content
    × (with_ref ≡ false)
IsCallOf z lane older (Downgrade register) (Publishing key content with_ref) = IsWritten older register.number key content
    × (with_ref ≡ true)
IsCallOf z lane older (Get register operand) (Getting key) = Names older operand key
IsCallOf z lane older (Release register) (Releasing key) = HasLast older register.number key
IsCallOf z lane older (Clear operand) (Clearing key) = Names older operand key
IsCallOf z lane older command call = ⊥

-- a lane as a caller, after these commands: what it last pushed on each stack, their steps did
abbrev pub caller_after : Shape → ℕ → List DoneCommand → Caller
caller_after z lane older = record { shape = z; lane = lane; pushed = pushed_after (flat_map (λ d. d.steps) older) (λ _. 0) }

-- the steps are the first of a lane's call, after these commands, and made these acts
abbrev pub IsBegun : Shape → ℕ → List DoneCommand → Call → List Step → List Act → Type 0
IsBegun z lane older call steps made = AreSteps (caller_after z lane older) call [] steps
    × AreMade (caller_after z lane older) call steps made

-- the steps are those of a lane's call, from the first to the last, after these commands, and made these acts
abbrev pub IsWhole : Shape → ℕ → List DoneCommand → Call → List Step → List Act → Type 0
IsWhole z lane older call steps made =
    AreSteps (caller_after z lane older) call [] steps × AreMade (caller_after z lane older) call steps made
    × (next_step (caller_after z lane older) call steps ≡ None)

-- ---- the reply of a call

-- a beginning of the history in which the lane has made just these acts
abbrev pub IsMoment : List Act → ℕ → List Act → List Act → Type 0
IsMoment history lane own past = IsPrefix past history × (acts_of lane past ≡ own)

-- a create replies the key of the place that it hands out, at a moment at which the lane has made these acts: the place is then with the lane, and
-- the key is of its next generation; and that the shard is full where there is no place
abbrev pub CreateReplies : Shape → List Act → ℕ → List Act → Option ℕ → Reply → Type 0
CreateReplies z history lane own (Some place) reply = (past : List Act) × IsMoment history lane own past
    × ((pool_after z past place).phase ≡ with lane)
    × (reply ≡ replies.Filling (key_number z.tag place (pool_after z past place).generation))
CreateReplies z history lane own None reply = reply ≡ replies.Full

-- a get replies the content that its Get shows, and that is then its one act; none where its Get shows none, or the key is none of the shape
abbrev pub GetReplies : Shape → ℕ → ℕ → List Act → Reply → Type 0
GetReplies z lane key made reply =
    ((content : List ℕ) × (made ≡ acts.Get lane key (Some content) ∷ []) × (reply ≡ replies.Found content))
    ⊎ (((rest : List Act) × (made ≡ acts.Get lane key None ∷ rest) × (reply ≡ replies.Missing))
    ⊎ ((is_key z key ≡ false) × (made ≡ []) × (reply ≡ replies.Missing)))

-- a clear replies what its Clear does, and false where the key is none of the shape
abbrev pub ClearReplies : Shape → ℕ → ℕ → List Act → Reply → Type 0
ClearReplies z lane key made reply =
    ((marks : Bool) × (rest : List Act) × (made ≡ acts.Clear lane key marks ∷ rest) × (reply ≡ replies.Cleared marks))
    ⊎ ((is_key z key ≡ false) × (made ≡ []) × (reply ≡ replies.Cleared false))

-- the reply of a call that made these acts, after these of its lane; a publish made its Publish alone, and a release its Release before all others; a
-- create hands out the first of its own list, else of its taken chain, else of what its TAKE collected, else slot 0 of its next unopened page
abbrev pub CallReplies : Shape → List Act → ℕ → List Act → Call → List Act → Reply → Type 0
CallReplies z history lane before (Publishing key content with_ref) made reply = (made ≡ acts.Publish lane key content with_ref ∷ [])
    × (reply ≡ replies.Key key)
CallReplies z history lane before (Getting key) made reply = GetReplies z lane key made reply
CallReplies z history lane before (Releasing key) made reply = ((rest : List Act) × (made ≡ acts.Release lane key ∷ rest))
    × (reply ≡ replies.Done)
CallReplies z history lane before (Clearing key) made reply = ClearReplies z lane key made reply
CallReplies z history lane before (Creating own chain opened) made reply =
    CreateReplies z history lane (before ++ made)
    (handed_first own (handed_first chain (handed_first (taken made) (if nat_lt opened z.pages then Some (place_at lane opened 0)
    else None)))) reply

-- ---- the commands that are done

-- the reply of a command that makes no call, after these: write; and read, of the content that the last key of the register was published with
abbrev pub RepliesAtOnce : List Act → List DoneCommand → Command → Reply → Type 0
RepliesAtOnce history older (Write register bytes) reply = reply ≡ replies.Done
RepliesAtOnce history older (Read register) reply = (key : ℕ) × (content : List ℕ) × HasLast older register.number key
    × ((position : ℕ) × PublishedAt history position key content) × (reply ≡ replies.Content content)
RepliesAtOnce history older command reply = ⊥

-- a command that is done, after these, in this history: where it hasn't what it needs it did nothing, and its reply is skip; where it has, it made no
-- call, or it made its call, from the first step to the last, and the reply is the call's
pub data IsDone (z : Shape) (history : List Act) (lane : ℕ) (older : List DoneCommand) (d : DoneCommand) : Type 0 where
  skipped : (Needs older d.command → ⊥) → d.steps ≡ [] → d.acts ≡ [] → d.reply ≡ replies.Skip → IsDone z history lane older d
  at_once : Needs older d.command → d.steps ≡ [] → d.acts ≡ [] → RepliesAtOnce history older d.command d.reply
      → IsDone z history lane older d
  by_call : Needs older d.command → (call : Call) → IsCallOf z lane older d.command call → IsWhole z lane older call d.steps d.acts
      → CallReplies z history lane (flat_map (λ o. o.acts) older) call d.acts d.reply → IsDone z history lane older d

-- what a lane has begun and not done: nothing, or the call of the first command that is left
pub data IsUnderWay (z : Shape) (lane : ℕ) (older : List DoneCommand) (left : List Command) (steps : List Step) (made : List Act) : Type 0
  where
    at_rest : steps ≡ [] → made ≡ [] → IsUnderWay z lane older left steps made
    within : (command : Command) (more : List Command) (call : Call) → left ≡ command ∷ more → Needs older command
        → IsCallOf z lane older command call
        → IsBegun z lane older call steps made → IsUnderWay z lane older left steps made

-- a lane's turns in a trace follow its script: they are those of its commands, in order, each done but for those that are left
pub record Follows (z : Shape) (lane : ℕ) (script : List Command) (trace : List Turn) : Type 0 where
  pub dones : List DoneCommand
  pub left : List Command
  pub steps : List Step
  pub acts : List Act
  pub script_is : script ≡ map (λ d. d.command) dones ++ left
  pub replies_are : all_replies (turns_of lane trace) ≡ map (λ d. d.reply) dones
  pub steps_are : all_steps (turns_of lane trace) ≡ flat_map (λ d. d.steps) dones ++ steps
  pub acts_are : all_acts (turns_of lane trace) ≡ flat_map (λ d. d.acts) dones ++ acts
  pub done : (older newer : List DoneCommand) (d : DoneCommand) → dones ≡ older ++ d ∷ newer → IsDone z (all_acts trace) lane older d
  pub under_way : IsUnderWay z lane dones left steps acts

-- each lane of a lawful trace follows its script
abbrev pub ScriptLaw : Type 0
ScriptLaw = (z : Shape) (scripts : List (List Command)) (schedule : List ℕ) (trace : List Turn) → IsLawful z scripts schedule trace
    → (lane : ℕ) → Follows z lane (script_or_none (slice_get scripts lane)) trace

-- ---- what a command that is done tells

-- a command replies skip just where it hasn't what it needs
abbrev pub SkipLaw : Type 0
SkipLaw = (z : Shape) (history : List Act) (lane : ℕ) (older : List DoneCommand) (d : DoneCommand) → IsDone z history lane older d
    → ((d.reply ≡ replies.Skip) ↔ (Needs older d.command → ⊥))

-- a publish or a downgrade that replied a key published it, with the bytes that were written to its register since the create of that key, in order
abbrev pub PublishedLaw : Type 0
PublishedLaw = (z : Shape) (history : List Act) (lane : ℕ) (older : List DoneCommand) (d : DoneCommand) → IsDone z history lane older d
    → (register : Register) (key : ℕ) (with_ref : Bool) → d.command ≡ (if with_ref then Downgrade register else Publish register)
    → d.reply ≡ replies.Key key
    → (content : List ℕ) × IsWritten older register.number key content × (d.acts ≡ acts.Publish lane key content with_ref ∷ [])

-- a read replies a content that the last key of its register was published with
abbrev pub ReadLaw : Type 0
ReadLaw = (z : Shape) (history : List Act) (lane : ℕ) (older : List DoneCommand) (d : DoneCommand) → IsDone z history lane older d
    → (register : Register) (content : List ℕ) → d.command ≡ Read register → d.reply ≡ replies.Content content
    → (key : ℕ) × HasLast older register.number key × ((position : ℕ) × PublishedAt history position key content)

-- a get replies a content just where its one act is the Get of its key that shows this content
abbrev pub FoundLaw : Type 0
FoundLaw = (z : Shape) (history : List Act) (lane : ℕ) (older : List DoneCommand) (d : DoneCommand) → IsDone z history lane older d
    → (register : Register) (operand : Operand) (content : List ℕ) → d.command ≡ Get register operand
    → ((d.reply ≡ replies.Found content) ↔ ((key : ℕ) × Names older operand key × (d.acts ≡ acts.Get lane key (Some content) ∷ [])))
