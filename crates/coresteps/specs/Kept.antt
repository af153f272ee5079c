-- What the core keeps of the world that its turns so far have made.
use Rattle.std.specs.Prelude.{◌≡◌, ◌==◌, ℕ, ◌+◌, ◌*◌, ◌<◌, ◌≤◌, Bool, true, List, [], ◌∷◌, ◌++◌, drop, length, Option, Some, None, slice_get, slice_index, MatchBool, if◌then◌else◌}
use Rattle.keybits.specs.declared.shape.Shape.{Shape}
use Rattle.keybits.specs.declared.shape.TheConstants.{MOST_LANES}
use Rattle.keybits.specs.declared.step.Step.{Step}
use Rattle.keybits.specs.declared.step.Word.{Word}
use Rattle.keybits.specs.declared.step.Word.TheVariants.{Life, Link, Stack}
use Rattle.keybits.specs.Shapes.{is_place, all_places, position_of}
use Rattle.keybits.specs.Keys.{place_of}
use Rattle.keybits.specs.Places.{shard_of}
use Rattle.keybits.specs.Counts.{times}
use Rattle.seqpool.specs.declared.act.Act.{Act}
use Rattle.seqpool.specs.declared.act.Act.TheVariants as acts
use Rattle.seqpool.specs.Pool.{pool_after, IsLegal}
use Rattle.steplaws.specs.Facts.{Words}
use Rattle.steplaws.specs.Calls.{Getting}
use Rattle.traces.specs.declared.script.Command.{Command}
use Rattle.traces.specs.declared.reply.Reply.{Reply}
use Rattle.traces.specs.declared.trace.Turn.{Turn}
use Rattle.traces.specs.Books.{Book, call_under_way, taken, shown, cleared, reclaimed, of_shard, pushed_after, registers_after, free_after, all_answered, act_list}
use Rattle.traces.specs.Following.{row_content, AreReplies}
use Rattle.traces.specs.Lawful.{World, words_after, with_book, world_after, world_from, is_finished, IsAtRest, IsNextTurn, AreTurns}
use Rattle.traces.specs.Parts.{Stands, StandsThroughout}
use Rattle.traces.specs.Keeping.{IsKept, AreResting}
use Rattle.coresteps.specs.declared.words.Table.{Table}
use Rattle.coresteps.specs.declared.lane.Lane.{Lane}
use Rattle.coresteps.specs.declared.progress.Progress.{Progress}
use Rattle.coresteps.specs.declared.progress.Most.{Most}
use Rattle.coresteps.specs.declared.shared.Made.{Made}
use Rattle.coresteps.specs.declared.shared.Shared.{Shared}
use Rattle.coresteps.specs.OwnLists.{IsOwnList, own_places}
use Rattle.coresteps.specs.Lanes.{AreSlots, last_step, IsChained, most_after, most_other_steps}

-- ---- words

-- the word is of a place, or of two lanes, of the shape
abbrev pub IsWordOf : Shape → Word → Type 0
IsWordOf z (Life place) = is_place z place ≡ true
IsWordOf z (Link place) = is_place z place ≡ true
IsWordOf z (Stack shard lane) = (shard < z.lanes) × (lane < z.lanes)

-- the table has the values of the words
pub record IsTable (z : Shape) (words : Words) (table : Table) : Type 0 where
  pub life_length : length table.life.items ≡ all_places z
  pub life : (place : ℕ) → is_place z place ≡ true → slice_index table.life.items (position_of z place) ≡ words.life place
  pub links_length : length table.links.items ≡ all_places z
  pub links : (place : ℕ) → is_place z place ≡ true → slice_index table.links.items (position_of z place) ≡ words.link place
  pub stacks_length : length table.stacks.items ≡ z.lanes * z.lanes
  pub stacks : (shard lane : ℕ) → shard < z.lanes → lane < z.lanes
      → slice_index table.stacks.items (shard * z.lanes + lane) ≡ words.stack shard lane

-- ---- what all lanes share

-- the act that is about to be made, if one is, as a list
abbrev pub made_acts : Option Made → List Act
made_acts None = []
made_acts (Some made) = act_list made.act

-- the step that is about to be made, if one is
abbrev pub made_step : Option Made → Option Step
made_step None = None
made_step (Some made) = Some made.step

-- the act of this index published the content
abbrev pub IsPublished : List Act → ℕ → List ℕ → Type 0
IsPublished history index content =
    (lane : ℕ) × (key : ℕ) × (with_ref : Bool) × (slice_get history index ≡ Some (acts.Publish lane key content with_ref))

-- which act published the key of a place: the one that is about to be made, or the one that the core has
abbrev pub index_of_publish : Shape → List ℕ → ℕ → List Act → ℕ → ℕ
index_of_publish z rows count [] place = slice_index rows (position_of z place)
index_of_publish z rows count (acts.Publish lane key content with_ref ∷ more) place =
    if place_of key == place then count else slice_index rows (position_of z place)
index_of_publish z rows count (act ∷ more) place = slice_index rows (position_of z place)

-- what all lanes share tells of the world, in which a step may be about to be made
pub record IsDraft (shared : Shared) (w : World) (made : Option Made) : Type 0 where
  pub kept : IsKept shared.shape w
  pub history : w.history ≡ shared.acts.items ++ made_acts made
  pub before : Words
  pub table : IsTable shared.shape before shared.words
  pub words : w.words ≡ words_after before (made_step made)
  pub places : length shared.published.items ≡ all_places shared.shape
  pub published : (place : ℕ) (content : List ℕ) → is_place shared.shape place ≡ true
      → row_content (pool_after shared.shape w.history place).phase ≡ Some content
      → IsPublished w.history (index_of_publish shared.shape shared.published.items (length shared.acts.items) (made_acts made) place)
      content

-- ---- a lane

-- a lane that has come so far tells of its book
pub record IsLaneAt (z : Shape) (history : List Act) (number : ℕ) (lane : Lane) (p : Progress) (b : Book) : Type 0 where
  pub left : drop p.done lane.script ≡ b.left
  pub within : p.done ≤ length lane.script
  pub slots : AreSlots lane.script p.done p.slots b.registers
  pub list : IsOwnList z lane.ring.items p.own
  pub own : own_places z number lane.ring.items p.own ≡ b.own ++ of_shard number (reclaimed z.last_generation b.acts)
  pub chain : IsChained history p.chain (b.chain ++ taken b.acts)
  pub opened : p.own.opened ≡ b.opened
  pub pushed_count : length p.pushed ≡ MOST_LANES
  pub pushed : (shard : ℕ) → shard < MOST_LANES → slice_index p.pushed shard ≡ pushed_after b.steps b.pushed shard
  pub last : p.last ≡ last_step b.steps
  pub made : p.made ≡ length b.steps
  pub cleared : p.cleared ≡ cleared b.acts
  -- the own places are of the lane's shard
  pub own_shard : (place : ℕ) → 0 < times place b.own → shard_of place ≡ number
  -- what the Get of the call under way shows is the content of its key
  pub shows : (key : ℕ) (content : List ℕ) → call_under_way b ≡ Some (Getting key) → shown b.acts ≡ Some content
      → row_content (pool_after z history (place_of key)).phase ≡ Some content

-- a command has its reply, but isn't counted as done yet: the registers and lists are those after it
pub record IsReplied (z : Shape) (history : List Act) (number : ℕ) (lane : Lane) (b : Book) (command : Command) (reply : Reply)
    (old new : Progress) : Type 0 where
  pub done : new.done ≡ old.done
  pub slots : AreSlots lane.script (old.done + 1) new.slots (registers_after b command reply)
  pub list : IsOwnList z lane.ring.items new.own
  pub own : own_places z number lane.ring.items new.own
      ≡ (free_after z number b command reply).own ++ of_shard number (reclaimed z.last_generation b.acts)
  pub chain : IsChained history new.chain (free_after z number b command reply).chain
  pub opened : new.own.opened ≡ (free_after z number b command reply).opened
  pub pushed : new.pushed ≡ old.pushed
  pub most : new.most ≡ old.most
  pub settled : old.own.added ≡ None → new.own.added ≡ None

-- the lane did all its work up to its next step or the script's end, with these replies
pub record IsWorked (shared : Shared) (w : World) (made : Option Made) (number : ℕ) (lane : Lane) (old : Progress) (replies : List Reply)
    (new : Progress) : Type 0 where
  pub replied : AreReplies shared.shape (pool_after shared.shape w.history) number (w.books number) replies
  pub draft : IsDraft shared (record {
    history = w.history;
    words = w.words;
    books = with_book w.books number (all_answered shared.shape number (w.books number) replies);
  }) made
  pub lane_at : IsLaneAt shared.shape w.history number lane new (all_answered shared.shape number (w.books number) replies)
  pub rest : IsAtRest shared.shape number (all_answered shared.shape number (w.books number) replies)
  pub most : new.most ≡ old.most
  pub settled : old.own.added ≡ None → new.own.added ≡ None

-- ---- the core

-- what the core keeps: of the world, and for each lane the greatest numbers of steps
pub record IsCoreAt (w : World) (most : ℕ → Most) (shared : Shared) (lanes : List Lane) : Type 0 where
  pub draft : IsDraft shared w None
  pub alone : shared.shape.guests ≡ 0
  pub count : length lanes ≡ shared.shape.lanes
  pub lane : (number : ℕ) (lane : Lane) → slice_get lanes number ≡ Some lane
      → IsLaneAt shared.shape w.history number lane lane.progress (w.books number)
  pub settled : (number : ℕ) (lane : Lane) → slice_get lanes number ≡ Some lane → lane.progress.own.added ≡ None
  pub most_is : (number : ℕ) (lane : Lane) → slice_get lanes number ≡ Some lane → lane.progress.most ≡ most number
  pub bounded : (number : ℕ) → ((most number).create ≤ shared.shape.lanes) × ((most number).other ≤ most_other_steps)
  pub resting : AreResting shared.shape w

-- what all lanes share is as before, but for the room of what grows
abbrev pub SameShared : Shared → Shared → Type 0
SameShared old new = (new.shape ≡ old.shape) × (new.words ≡ old.words) × (new.published.items ≡ old.published.items)
    × (new.acts.items ≡ old.acts.items)

-- a core: what all lanes share, and the lanes
pub record CoreState : Type 0 where
  pub shared : Shared
  pub lanes : List Lane

-- the core keeps the world that its turns so far have made, and the greatest numbers of steps of each lane's calls
abbrev pub IsCore : World → (ℕ → Most) → CoreState → Type 0
IsCore w most core = IsCoreAt w most core.shared core.lanes

-- a turn in which nothing was done
abbrev pub IsEmptyTurn : ℕ → Turn → Type 0
IsEmptyTurn lane turn = (turn.lane ≡ lane) × (turn.before ≡ []) × (turn.step ≡ None) × (turn.act ≡ None) × (turn.after ≡ [])

-- the core made the lane's next turn: it is the next of a lawful trace, the history with it is legal, and after it the facts stand
pub record MakesTurn (old : CoreState) (w : World) (most : ℕ → Most) (lane : ℕ) (turn : Turn) (new : CoreState) : Type 0 where
  pub lane_is : turn.lane ≡ lane
  pub next : IsNextTurn old.shared.shape w turn
  pub legal : IsLegal old.shared.shape (world_after old.shared.shape w turn).history
  pub stands : Stands old.shared.shape (world_after old.shared.shape w turn)
  pub kept : IsCore (world_after old.shared.shape w turn) (most_after old.shared.shape w turn most) new
  pub shape : new.shared.shape ≡ old.shared.shape

-- a turn of a lane: nothing for a finished one, and for a number that is no lane; else its next
abbrev pub Turns : CoreState → World → (ℕ → Most) → ℕ → Turn → CoreState → Type 0
Turns old w most lane turn new = MatchBool (is_finished old.shared.shape w lane)
    (IsEmptyTurn lane turn × IsCore w most new × (new.shared.shape ≡ old.shared.shape))
    (MakesTurn old w most lane turn new)

-- the core keeps what these turns have made, which are those of the schedule, and after each of which the facts stand
abbrev pub IsRun : Shape → World → List ℕ → List Turn → CoreState → Type 0
IsRun z w schedule turns core = AreTurns z w schedule turns × StandsThroughout z w turns
    × ((most : ℕ → Most) × IsCore (world_from z w turns) most core)
