-- What the core keeps of a lane tells of its book: its registers, its call, its next step and its chain.
use Rattle.std.specs.Prelude.{◌≡◌, ◌==◌, ℕ, ◌+◌, ◌-◌, ◌<◌, ◌≤◌, false, List, [], ◌∷◌, take, drop, flat_map, length, replicate, Option, Some, None, slice_get, max, if◌then◌else◌}
use Rattle.keybits.specs.declared.shape.TheConstants.{MOST_LANES}
use Rattle.keybits.specs.declared.step.Step.{Step}
use Rattle.seqpool.specs.declared.act.Act.{Act}
use Rattle.seqpool.specs.declared.act.Act.TheVariants as acts
use Rattle.steplaws.specs.Calls as steps
use Rattle.traces.specs.declared.script.Command.{Command}
use Rattle.traces.specs.declared.script.Command.TheVariants as commands
use Rattle.traces.specs.declared.registers.RegisterState.{RegisterState}
use Rattle.traces.specs.declared.registers.Holding.{Holding}
use Rattle.traces.specs.declared.registers.Holding.TheVariants as holdings
use Rattle.traces.specs.declared.trace.Turn.{Turn}
use Rattle.traces.specs.Registers.{register_at}
use Rattle.traces.specs.Books.{Book}
use Rattle.traces.specs.Lawful.{World, book_before}
use Rattle.keybits.specs.declared.shape.Shape.{Shape}
use Rattle.coresteps.specs.declared.aims.Aim.{Aim}
use Rattle.coresteps.specs.declared.progress.Held.{Held}
use Rattle.coresteps.specs.declared.progress.Held.TheVariants.{Empty, Filling, Reference}
use Rattle.coresteps.specs.declared.progress.KeptRegister.{KeptRegister}
use Rattle.coresteps.specs.declared.progress.Call.{Call}
use Rattle.coresteps.specs.declared.progress.Call.TheVariants.{Publish, Get, Release, Clear, Create}
use Rattle.coresteps.specs.declared.progress.Chain.{Chain}
use Rattle.coresteps.specs.declared.progress.Most.{Most}
use Rattle.coresteps.specs.declared.progress.Progress.{Progress}
use Rattle.coresteps.specs.declared.progress.TheConstants.{REGISTERS}

-- ---- registers

-- the bytes that a command writes to the register of this number
abbrev pub written_by : ℕ → Command → List ℕ
written_by number (commands.Write register bytes) = if register.number == number then bytes else []
written_by number command = []

-- the bytes that were written to a register by the commands of a script from one to before another
abbrev pub written_since : List Command → ℕ → ℕ → ℕ → List ℕ
written_since script created done number = flat_map (written_by number) (take (done - created) (drop created script))

-- a slot that had nothing yet
abbrev pub empty_slot : KeptRegister
empty_slot = record { held = Empty; last_key = None }

-- the slot, or an empty one where there is none
abbrev pub slot_or_empty : Option KeptRegister → KeptRegister
slot_or_empty (Some slot) = slot
slot_or_empty None = empty_slot

-- the slot of this number
abbrev pub slot_at : List KeptRegister → ℕ → KeptRegister
slot_at slots number = slot_or_empty (slice_get slots number)

-- what a slot holds stands for what the register holds: of a filling the bytes stand in the script, and of a reference its key is kept
abbrev pub IsHeld : List Command → ℕ → ℕ → Held → Holding → Type 0
IsHeld script done number Empty holding = holding ≡ holdings.Empty
IsHeld script done number (Filling key created) holding =
    (created ≤ done) × (holding ≡ holdings.Filling key (written_since script created done number))
IsHeld script done number (Reference key) holding = (content : List ℕ) × (holding ≡ holdings.Reference key content)

-- a slot stands for the register of this number, where so many commands are done
abbrev pub IsSlot : List Command → ℕ → ℕ → KeptRegister → RegisterState → Type 0
IsSlot script done number slot register = (slot.last_key ≡ register.last_key) × IsHeld script done number slot.held register.holding

-- the slots stand for the registers
pub record AreSlots (script : List Command) (done : ℕ) (slots : List KeptRegister) (registers : List RegisterState) : Type 0 where
  pub count : length slots ≡ REGISTERS
  pub register_count : length registers ≡ REGISTERS
  pub each : (number : ℕ) → number < REGISTERS → IsSlot script done number (slot_at slots number) (register_at registers number)

-- ---- calls and steps

-- the call that the core makes of a command stands for the book's
abbrev pub IsCall : List Command → ℕ → Book → Option Call → Option steps.Call → Type 0
IsCall script done b None is = is ≡ None
IsCall script done b (Some (Publish register key created with_ref)) is =
    (created ≤ done) × (is ≡ Some (steps.Publishing key (written_since script created done register.number) with_ref))
IsCall script done b (Some (Get key)) is = is ≡ Some (steps.Getting key)
IsCall script done b (Some (Release key)) is = is ≡ Some (steps.Releasing key)
IsCall script done b (Some (Clear key)) is = is ≡ Some (steps.Clearing key)
IsCall script done b (Some Create) is = is ≡ Some (steps.Creating b.own b.chain b.opened)

-- an aim of the core as the calls tell it
abbrev pub aim_of : Aim → steps.Aim
aim_of a = steps.aim a.kind a.word

-- the core's aim is the next step, if there is one
abbrev pub IsAim : Option Aim → Option steps.Aim → Type 0
IsAim None next = next ≡ None
IsAim (Some a) next = next ≡ Some (aim_of a)

-- the last of these steps
abbrev pub last_step : List Step → Option Step
last_step [] = None
last_step (step ∷ []) = Some step
last_step (step ∷ next ∷ more) = last_step (next ∷ more)

-- ---- the chain

-- these places of the act of this index are still to be followed
abbrev pub AreChained : List Act → Option ℕ → ℕ → List ℕ → Type 0
AreChained history None followed places = places ≡ []
AreChained history (Some index) followed places =
    (lane : ℕ) × (taken : List ℕ) × (slice_get history index ≡ Some (acts.Collect lane taken)) × (followed ≤ length taken)
    × (places ≡ drop followed taken)

-- the chain tells the places that are still to be followed
abbrev pub IsChained : List Act → Chain → List ℕ → Type 0
IsChained history chain places = AreChained history chain.collect chain.followed places

-- ---- how many steps calls have made

-- the most steps of a call that is no create: ENTER, MARK, LEAVE and CLAIM, and LINK and PUSH twice
abbrev pub most_other_steps : ℕ
most_other_steps = 8

-- before the first turn
abbrev pub no_most : Most
no_most = record { create = 0; other = 0 }

-- the call of the first of these commands has made so many steps
abbrev pub counted : List Command → ℕ → Most → Most
counted [] steps most = most
counted (commands.Create register ∷ more) steps most = record { create = max most.create steps; other = most.other }
counted (command ∷ more) steps most = record { create = most.create; other = max most.other steps }

-- the same after the step of a turn, if it has one
abbrev pub counted_step : Book → Option Step → Most → Most
counted_step b None most = most
counted_step b (Some step) most = counted b.left (length b.steps + 1) most

-- for each lane the greatest number of steps of one create, and of one other call, after a turn more
abbrev pub most_after : Shape → World → Turn → (ℕ → Most) → ℕ → Most
most_after z w t most lane = if lane == t.lane then counted_step (book_before z w t) t.step (most lane) else most lane

-- ---- before the first turn

-- nothing is done
abbrev pub first_progress : Progress
first_progress = record {
  done = 0;
  slots = replicate REGISTERS empty_slot;
  own = record { opened = 0; unused = 0; first = 0; length = 0; added = None };
  chain = record { collect = None; followed = 0 };
  pushed = replicate MOST_LANES 0;
  last = None;
  made = 0;
  cleared = false;
  most = no_most;
}
