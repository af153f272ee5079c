-- What a lane has done of its script, as its turns tell: its book.
use Rattle.std.specs.Prelude.{◌==◌, ℕ, zero, suc, ◌+◌, Bool, true, false, nat_lt, List, [], ◌∷◌, ◌++◌, drop, Option, Some, None, slice_set, replicate, if◌then◌else◌}
use Rattle.keybits.specs.declared.shape.Shape.{Shape}
use Rattle.keybits.specs.declared.step.Step.{Step}
use Rattle.keybits.specs.declared.step.Kind.{Kind}
use Rattle.keybits.specs.declared.step.Kind.TheVariants as kinds
use Rattle.keybits.specs.declared.step.Word.{Word}
use Rattle.keybits.specs.declared.step.Word.TheVariants as words
use Rattle.keybits.specs.Places.{shard_of, place_at}
use Rattle.keybits.specs.Shapes.{page_size}
use Rattle.keybits.specs.Keys.{place_of, generation_of}
use Rattle.seqpool.specs.declared.act.Act.{Act}
use Rattle.seqpool.specs.declared.act.Act.TheVariants as acts
use Rattle.seqpool.specs.Pool.{put}
use Rattle.steplaws.specs.Calls.{Call, Publishing, Getting, Releasing, Clearing, Creating, Caller, Aim, next_step}
use Rattle.traces.specs.declared.script.Command.{Command}
use Rattle.traces.specs.declared.script.Command.TheVariants.{Create, Write, Publish, Downgrade, Get, Read, Release, Clear}
use Rattle.traces.specs.declared.reply.Reply.{Reply}
use Rattle.traces.specs.declared.reply.Reply.TheVariants as replies
use Rattle.traces.specs.declared.registers.RegisterState.{RegisterState}
use Rattle.traces.specs.declared.registers.Holding.{Holding}
use Rattle.traces.specs.declared.registers.Holding.TheVariants.{Empty, Filling, Reference}
use Rattle.traces.specs.Registers.{empty_register, register_with, register_at, operand_key}

-- the commands that have no reply yet; the registers; the lane's own free places, the places of its taken chain that are still to be
-- followed, and how many of its pages are opened; for each shard the word that it last pushed on its stack there; and the steps
-- that the first command without a reply has made so far, with their acts
pub record Book : Type 0 where
  pub left : List Command
  pub registers : List RegisterState
  pub own : List ℕ
  pub chain : List ℕ
  pub opened : ℕ
  pub pushed : ℕ → ℕ
  pub steps : List Step
  pub acts : List Act

-- before the first turn: no page is opened, and all registers are empty
abbrev pub first_book : List Command → Book
first_book script =
    record {
      left = script;
      registers = replicate 16 empty_register;
      own = [];
      chain = [];
      opened = 0;
      pushed = λ _. 0;
      steps = [];
      acts =
          [];
    }

-- the call of a publish or a downgrade: only of a filling
abbrev pub publishing : Bool → Holding → Option Call
publishing with_ref Empty = None
publishing with_ref (Filling key content) = Some (Publishing key content with_ref)
publishing with_ref (Reference key content) = None

-- the call of a release: only of a reference
abbrev pub releasing : Holding → Option Call
releasing Empty = None
releasing (Filling key content) = None
releasing (Reference key content) = Some (Releasing key)

-- the call of a create: only into an empty register
abbrev pub creating : Book → Holding → Option Call
creating b Empty = Some (Creating b.own b.chain b.opened)
creating b (Filling key content) = None
creating b (Reference key content) = None

-- the call of a get of this key, if there is one: only into an empty register
abbrev pub getting : Option ℕ → Holding → Option Call
getting (Some key) Empty = Some (Getting key)
getting (Some key) (Filling at content) = None
getting (Some key) (Reference at content) = None
getting None holding = None

-- the call of a clear of this key, if there is one
abbrev pub clearing : Option ℕ → Option Call
clearing (Some key) = Some (Clearing key)
clearing None = None

-- what the register of this number holds
abbrev pub holding_at : Book → ℕ → Holding
holding_at b register = (register_at b.registers register).holding

-- the call that a command makes; none where it only works on the registers or does nothing
abbrev pub call_of : Book → Command → Option Call
call_of b (Create register) = creating b (holding_at b register.number)
call_of b (Write register bytes) = None
call_of b (Publish register) = publishing false (holding_at b register.number)
call_of b (Downgrade register) = publishing true (holding_at b register.number)
call_of b (Get register key) = getting (operand_key b.registers key) (holding_at b register.number)
call_of b (Read register) = None
call_of b (Release register) = releasing (holding_at b register.number)
call_of b (Clear key) = clearing (operand_key b.registers key)

-- the call of the first command without a reply
abbrev pub call_of_first : Book → List Command → Option Call
call_of_first b [] = None
call_of_first b (command ∷ more) = call_of b command

-- the call under way
abbrev pub call_under_way : Book → Option Call
call_under_way b = call_of_first b b.left

-- the lane as a caller
abbrev pub caller : Shape → ℕ → Book → Caller
caller z lane b = record { shape = z; lane = lane; pushed = b.pushed }

-- the next step of a call, if there is a call
abbrev pub next_in : Caller → List Step → Option Call → Option Aim
next_in c steps (Some call) = next_step c call steps
next_in c steps None = None

-- the step that the lane makes next, before any further reply; none where the next is a reply, or the script is at its end
abbrev pub next_aim : Shape → ℕ → Book → Option Aim
next_aim z lane b = next_in (caller z lane b) b.steps (call_under_way b)

-- the places that a TAKE of these acts found
abbrev pub taken : List Act → List ℕ
taken [] = []
taken (acts.Collect lane places ∷ more) = places
taken (acts.Publish lane key content with_ref ∷ more) = taken more
taken (acts.Get lane key reply ∷ more) = taken more
taken (acts.Release lane key ∷ more) = taken more
taken (acts.Clear lane key reply ∷ more) = taken more
taken (acts.Reclaim lane key ∷ more) = taken more
taken (acts.Home lane place ∷ more) = taken more

-- the reply of the Get of these acts
abbrev pub shown : List Act → Option (List ℕ)
shown [] = None
shown (acts.Get lane key reply ∷ more) = reply
shown (acts.Publish lane key content with_ref ∷ more) = shown more
shown (acts.Release lane key ∷ more) = shown more
shown (acts.Clear lane key reply ∷ more) = shown more
shown (acts.Reclaim lane key ∷ more) = shown more
shown (acts.Home lane place ∷ more) = shown more
shown (acts.Collect lane places ∷ more) = shown more

-- the reply of the Clear of these acts
abbrev pub cleared : List Act → Bool
cleared [] = false
cleared (acts.Clear lane key reply ∷ more) = reply
cleared (acts.Publish lane key content with_ref ∷ more) = cleared more
cleared (acts.Get lane key reply ∷ more) = cleared more
cleared (acts.Release lane key ∷ more) = cleared more
cleared (acts.Reclaim lane key ∷ more) = cleared more
cleared (acts.Home lane place ∷ more) = cleared more
cleared (acts.Collect lane places ∷ more) = cleared more

-- the places that these acts reclaimed below the last generation
abbrev pub reclaimed : ℕ → List Act → List ℕ
reclaimed last [] = []
reclaimed last (acts.Reclaim lane key ∷ more) =
    if generation_of key == last then reclaimed last more else place_of key ∷ reclaimed last more
reclaimed last (acts.Publish lane key content with_ref ∷ more) = reclaimed last more
reclaimed last (acts.Get lane key reply ∷ more) = reclaimed last more
reclaimed last (acts.Release lane key ∷ more) = reclaimed last more
reclaimed last (acts.Clear lane key reply ∷ more) = reclaimed last more
reclaimed last (acts.Home lane place ∷ more) = reclaimed last more
reclaimed last (acts.Collect lane places ∷ more) = reclaimed last more

-- the places that these acts returned
abbrev pub returned : List Act → List ℕ
returned [] = []
returned (acts.Home lane place ∷ more) = place ∷ returned more
returned (acts.Publish lane key content with_ref ∷ more) = returned more
returned (acts.Get lane key reply ∷ more) = returned more
returned (acts.Release lane key ∷ more) = returned more
returned (acts.Clear lane key reply ∷ more) = returned more
returned (acts.Reclaim lane key ∷ more) = returned more
returned (acts.Collect lane places ∷ more) = returned more

-- the places of the list that are of this shard
abbrev pub of_shard : ℕ → List ℕ → List ℕ
of_shard shard [] = []
of_shard shard (place ∷ more) = if shard_of place == shard then place ∷ of_shard shard more else of_shard shard more

-- the places of a page from this slot on: so many of them
abbrev pub slots_from : ℕ → ℕ → ℕ → ℕ → List ℕ
slots_from shard page first zero = []
slots_from shard page first (suc count) = place_at shard page first ∷ slots_from shard page (first + 1) count

-- the places of a page, from the lowest slot to the highest
abbrev pub page_places : Shape → ℕ → ℕ → List ℕ
page_places z shard page = slots_from shard page 0 (page_size z page)

-- the first place of a list; where there is none, what else there is
abbrev pub handed_first : List ℕ → Option ℕ → Option ℕ
handed_first [] other = other
handed_first (place ∷ more) other = Some place

-- what create hands out, in the order: the first of the own list; else the first of the taken chain; else the first of what its TAKEs found;
-- else slot 0 of the next unopened page; else nothing, where it answers full
abbrev pub handed_out : Shape → ℕ → Book → Option ℕ
handed_out z lane b =
    handed_first b.own (handed_first b.chain (handed_first (taken b.acts)
    (if nat_lt b.opened z.pages then Some (place_at lane b.opened 0) else None)))

-- the own list, the chain and the opened pages after create
pub record Free : Type 0 where
  pub own : List ℕ
  pub chain : List ℕ
  pub opened : ℕ

-- a list, a chain and a number of opened pages
abbrev pub free_with : List ℕ → List ℕ → ℕ → Free
free_with own chain opened = record { own = own; chain = chain; opened = opened }

-- a page was opened: its places but for slot 0 are the own list
abbrev pub after_opening : Shape → ℕ → ℕ → Free
after_opening z lane opened =
    if nat_lt opened z.pages then free_with (drop 1 (page_places z lane opened)) [] (opened + 1) else free_with [] [] opened

-- the first of what its TAKEs found is handed out, and the rest is the chain; where they found nothing a page is opened
abbrev pub after_taking : Shape → ℕ → ℕ → List ℕ → Free
after_taking z lane opened [] = after_opening z lane opened
after_taking z lane opened (place ∷ more) = free_with [] more opened

-- the first of the chain is handed out; where there is none, as after taking
abbrev pub after_chain : Shape → ℕ → ℕ → List ℕ → List ℕ → Free
after_chain z lane opened found [] = after_taking z lane opened found
after_chain z lane opened found (place ∷ more) = free_with [] more opened

-- the first of the own list is handed out; where there is none, as from the chain
abbrev pub after_own : Shape → ℕ → ℕ → List ℕ → List ℕ → List ℕ → Free
after_own z lane opened found chain [] = after_chain z lane opened found chain
after_own z lane opened found chain (place ∷ more) = free_with more chain opened

-- what is left of these free places after a create that made these acts and handed out a place
abbrev pub free_after_create : Shape → ℕ → Free → List Act → Free
free_after_create z lane free made = after_own z lane free.opened (taken made) free.chain free.own

-- a filling with more bytes at its end
abbrev pub written : List ℕ → Holding → Holding
written bytes Empty = Empty
written bytes (Filling key content) = Filling key (content ++ bytes)
written bytes (Reference key content) = Reference key content

-- a reference to what was a filling
abbrev pub kept : Holding → Holding
kept Empty = Empty
kept (Filling key content) = Reference key content
kept (Reference key content) = Reference key content

-- a register that holds a reference to the key of a get
abbrev pub got : Option ℕ → List ℕ → RegisterState → RegisterState
got (Some key) content old = register_with (Reference key content) (Some key)
got None content old = old

-- the registers, but this in the one of this number
abbrev pub with_register : Book → ℕ → RegisterState → List RegisterState
with_register b number register = slice_set b.registers number register

-- the registers after a command and its reply: create and get fill a register, which remembers the key; publish and release empty it
abbrev pub registers_after : Book → Command → Reply → List RegisterState
registers_after b (Create register) (replies.Filling key) = with_register b register.number (register_with (Filling key []) (Some key))
registers_after b (Write register bytes) replies.Done =
    let old = register_at b.registers register.number in with_register b register.number
    (register_with (written bytes old.holding) old.last_key)
registers_after b (Publish register) (replies.Key key) =
    let old = register_at b.registers register.number in with_register b register.number (register_with Empty old.last_key)
registers_after b (Downgrade register) (replies.Key key) =
    let old = register_at b.registers register.number in with_register b register.number (register_with (kept old.holding) old.last_key)
registers_after b (Get register key) (replies.Found content) =
    with_register b register.number (got (operand_key b.registers key) content (register_at b.registers register.number))
registers_after b (Release register) replies.Done =
    let old = register_at b.registers register.number in with_register b register.number (register_with Empty old.last_key)
registers_after b command reply = b.registers

-- what is left of these free places after a command that made these acts, and its reply: only a create that hands out a place takes one
abbrev pub free_left : Shape → ℕ → Free → Command → Reply → List Act → Free
free_left z lane free (Create register) (replies.Filling key) made = free_after_create z lane free made
free_left z lane free command reply made = free

-- the lane's free places after a command and its reply
abbrev pub free_after : Shape → ℕ → Book → Command → Reply → Free
free_after z lane b command reply = free_left z lane (free_with b.own b.chain b.opened) command reply b.acts

-- for each shard the word last pushed, after one step more: a PUSH that succeeded is the last of its stack
abbrev pub pushed_by : Step → Kind → Word → (ℕ → ℕ) → ℕ → ℕ
pushed_by step (kinds.Push expected link) (words.Stack shard lane) pushed = if step.before == expected then put pushed shard link
    else pushed
pushed_by step kind word pushed = pushed

-- for each shard the word last pushed, after these steps
abbrev pub pushed_after : List Step → (ℕ → ℕ) → ℕ → ℕ
pushed_after [] pushed = pushed
pushed_after (step ∷ more) pushed = pushed_after more (pushed_by step step.kind step.word pushed)

-- the book after the first command without a reply has this one. A reclaimed place of the lane's own shard goes to the end of its list
abbrev pub answered_first : Shape → ℕ → Book → List Command → Reply → Book
answered_first z lane b [] reply = b
answered_first z lane b (command ∷ more) reply =
    let free = free_after z lane b command reply in
    record {
      left = more;
      registers = registers_after b command reply;
      own = free.own ++ of_shard lane (reclaimed z.last_generation b.acts);
      chain = free.chain;
      opened = free.opened;
      pushed = pushed_after b.steps b.pushed;
      steps = [];
      acts = [];
    }

-- a lane's book after a reply to its next command
abbrev pub answered : Shape → ℕ → Book → Reply → Book
answered z lane b reply = answered_first z lane b b.left reply

-- the book after some replies
abbrev pub all_answered : Shape → ℕ → Book → List Reply → Book
all_answered z lane b [] = b
all_answered z lane b (reply ∷ more) = all_answered z lane (answered z lane b reply) more

-- the act of a step, as a list
abbrev pub act_list : Option Act → List Act
act_list None = []
act_list (Some act) = act ∷ []

-- the book after a step with its act
abbrev pub stepped : Book → Step → Option Act → Book
stepped b step act = record b { steps = b.steps ++ step ∷ []; acts = b.acts ++ act_list act }
