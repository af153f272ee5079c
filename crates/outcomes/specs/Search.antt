-- The search for outcomes: what states and outcomes stand for.
use Rattle.std.specs.Prelude.{◌≡◌, ⊤, ◌⊎◌, ℕ, ◌+◌, ◌*◌, ◌<◌, ◌≤◌, Bool, true, false, slice_set, List, [], ◌∷◌, ◌++◌, Option, Some, None, length, slice_get}
use Rattle.keybits.specs.declared.shape.Shape.{Shape}
use Rattle.traces.specs.declared.script.Command.{Command}
use Rattle.traces.specs.declared.reply.Reply.{Reply}
use Rattle.traces.specs.declared.trace.Turn.{Turn}
use Rattle.traces.specs.Lawful.{world_of, world_from, is_finished, IsLawful}
use Rattle.onetrace.specs.Decided.{GoOn}
use Rattle.outcomes.specs.declared.outcome.Outcome.{Outcome}
use Rattle.outcomes.specs.declared.reached.Reached.{Reached}
use Rattle.outcomes.specs.Among.{IsIn, IsCount}
use Rattle.outcomes.specs.Schedules.{IsUpTo}
use Rattle.outcomes.specs.Outcomes.{AreReplied, EndsSo, LackReplies, AreDifferent}

-- a schedule of so many entries, each of which makes a turn of the trace
pub record IsReached (z : Shape) (scripts : List (List Command)) (size : ℕ) (reached : Reached) : Type 0 where
  pub lawful : IsLawful z scripts reached.schedule.items reached.trace
  pub turns : length reached.trace ≡ size
  pub entries : length reached.schedule.items ≡ size

-- behind these turns, a schedule runs the scripts to their ends by its own, and all lanes get these replies
pub record Leads (z : Shape) (scripts : List (List Command)) (past : List Turn) (schedule : List ℕ) (replies : List (List Reply)) : Type 0
  where
    pub made : List Turn
    pub on : GoOn z (world_of z scripts past) schedule made
    pub turns : length made ≡ length schedule
    pub ended : (lane : ℕ) → is_finished z (world_from z (world_of z scripts past) made) lane ≡ true
    pub replied : AreReplied z (past ++ made) replies

-- the first entry of a schedule is this lane or a later one
abbrev pub IsFrom : ℕ → List ℕ → Type 0
IsFrom lane [] = ⊤
IsFrom lane (first ∷ schedule) = lane ≤ first

-- a state, with the runs that go on from there by this lane or a later one; or an outcome, with none
pub data Item : Type 0 where
  going : ℕ → Reached → Item
  over : Outcome → Item

-- a schedule ends the runs of an item with these replies
abbrev pub Goes : Shape → List (List Command) → Item → List ℕ → List (List Reply) → Type 0
Goes z scripts (going lane reached) schedule replies = Leads z scripts reached.trace schedule replies × IsFrom lane schedule
Goes z scripts (over outcome) schedule replies = (schedule ≡ []) × (outcome.replies.items ≡ replies)

-- how an item was come to
abbrev pub came : Item → List ℕ
came (going lane reached) = reached.schedule.items
came (over outcome) = outcome.schedule.items

-- by how many schedules
abbrev pub weight : Item → ℕ
weight (going lane reached) = reached.ways
weight (over outcome) = outcome.ways

-- these replies, or any
abbrev pub AreWanted : Option (List (List Reply)) → List (List Reply) → Type 0
AreWanted None replies = ⊤
AreWanted (Some wanted) replies = replies ≡ wanted

-- a schedule ends the runs of an item with wanted replies
abbrev pub Ends : Shape → List (List Command) → Option (List (List Reply)) → Item → List ℕ → Type 0
Ends z scripts wanted item schedule = (replies : List (List Reply)) × AreWanted wanted replies × Goes z scripts item schedule replies

-- for each item, how many schedules do
abbrev pub AreCounts : Shape → List (List Command) → Option (List (List Reply)) → List Item → List ℕ → Type 0
AreCounts z scripts wanted [] [] = ⊤
AreCounts z scripts wanted [] (count ∷ counts) = ⊥
AreCounts z scripts wanted (item ∷ items) [] = ⊥
AreCounts z scripts wanted (item ∷ items) (count ∷ counts) =
    IsCount (Ends z scripts wanted item) count × AreCounts z scripts wanted items counts

-- how many schedules that makes in all, with those that came to the items
abbrev pub weighed : List Item → List ℕ → ℕ
weighed [] counts = 0
weighed (item ∷ items) [] = 0
weighed (item ∷ items) (count ∷ counts) = weight item * count + weighed items counts

-- each run of an item is one of another, with no later schedule; and as many end with wanted replies
pub record Become (z : Shape) (scripts : List (List Command)) (items others : List Item) : Type 0 where
  pub runs : (item : Item) → IsIn item items → (schedule : List ℕ) (replies : List (List Reply)) → Goes z scripts item schedule replies
      → (other : Item) × IsIn other others × ((shorter : List ℕ) × Goes z scripts other shorter replies
      × IsUpTo (came other ++ shorter) (came item ++ schedule))
  pub counts : (wanted : Option (List (List Reply))) (counts : List ℕ) → AreCounts z scripts wanted others counts
      → (before : List ℕ) × AreCounts z scripts wanted items before × (weighed items before ≡ weighed others counts)

-- states with all their runs, before other items
abbrev pub with_states : List Reached → List Item → List Item
with_states [] items = items
with_states (reached ∷ more) items = going 0 reached ∷ with_states more items

-- outcomes
abbrev pub with_outcomes : List Outcome → List Item
with_outcomes [] = []
with_outcomes (outcome ∷ more) = over outcome ∷ with_outcomes more

-- states of schedules of so many entries
abbrev pub AreReached : Shape → List (List Command) → ℕ → List Reached → Type 0
AreReached z scripts size layer = (reached : Reached) → IsIn reached layer → IsReached z scripts size reached

-- each outcome's schedule ends so, and none stands twice
pub record AreShown (z : Shape) (scripts : List (List Command)) (outcomes : List Outcome) : Type 0 where
  pub each : (outcome : Outcome) → IsIn outcome outcomes → EndsSo z scripts outcome.schedule.items outcome.replies.items
  pub different : AreDifferent outcomes

-- the one is by a turn of a lane more than the other, and as many schedules came to it
pub record IsNext (z : Shape) (scripts : List (List Command)) (size : ℕ) (from : Reached) (lane : ℕ) (next : Reached) : Type 0 where
  pub schedule : next.schedule.items ≡ from.schedule.items ++ lane ∷ []
  pub ways : next.ways ≡ from.ways
  pub reached : IsReached z scripts (size + 1) next

-- a state's way is that of one of two, by the first of their schedules, and those to both count
pub record IsJoined (kept other joined : Reached) : Type 0 where
  pub way : ((joined.schedule.items ≡ kept.schedule.items) × (joined.trace ≡ kept.trace))
      ⊎ ((joined.schedule.items ≡ other.schedule.items) × (joined.trace ≡ other.trace))
  pub ways : joined.ways ≡ kept.ways + other.ways
  pub before : IsUpTo joined.schedule.items kept.schedule.items
  pub first : IsUpTo joined.schedule.items other.schedule.items

-- the same of two outcomes: the replies stay
pub record IsSameOutcome (kept other joined : Outcome) : Type 0 where
  pub replies : joined.replies.items ≡ kept.replies.items
  pub schedule : (joined.schedule.items ≡ kept.schedule.items) ⊎ (joined.schedule.items ≡ other.schedule.items)
  pub ways : joined.ways ≡ kept.ways + other.ways
  pub before : IsUpTo joined.schedule.items kept.schedule.items
  pub first : IsUpTo joined.schedule.items other.schedule.items

-- an outcome joined the table: behind it, as no other has its replies; or the one that has
abbrev pub IsTold : List Outcome → Outcome → List Outcome → Type 0
IsTold table one told =
    (LackReplies one.replies.items table × (told ≡ table ++ one ∷ []))
    ⊎ ((i : ℕ) × (same : Outcome) × (joined : Outcome) × (slice_get table i ≡ Some same) × (same.replies.items ≡ one.replies.items)
    × IsSameOutcome same one joined × (told ≡ slice_set table i joined))

-- what a state tells of its outcome
pub record IsOutcomeOf (z : Shape) (state : Reached) (outcome : Outcome) : Type 0 where
  pub schedule : outcome.schedule.items ≡ state.schedule.items
  pub replies : AreReplied z state.trace outcome.replies.items
  pub ways : outcome.ways ≡ state.ways

-- a state's outcome is in the table, in the place of the state
pub record IsConcluded (z : Shape) (scripts : List (List Command)) (state : Reached) (table told : List Outcome) : Type 0 where
  pub shown : AreShown z scripts told
  pub become : (layer : List Reached)
      → Become z scripts (going 0 state ∷ with_states layer (with_outcomes table)) (with_states layer (with_outcomes told))

-- a turn of a lane was tried from a state: its script is at its end, and nothing changed; or what it leads to is in the layer
abbrev pub IsTried : Shape → List (List Command) → ℕ → Reached → ℕ → List Reached → List Reached → Bool → Type 0
IsTried z scripts size from lane next new false = (is_finished z (world_of z scripts from.trace) lane ≡ true) × (new ≡ next)
IsTried z scripts size from lane next new true = (is_finished z (world_of z scripts from.trace) lane ≡ false)
    × AreReached z scripts (size + 1) new
    × ((rest : List Item) → Become z scripts (going lane from ∷ with_states next rest) (going (lane + 1) from ∷ with_states new rest))

-- the lanes below a number were tried: all scripts are at their ends, and nothing changed; or one isn't
abbrev pub AreEnded : Shape → List (List Command) → Reached → ℕ → List Reached → List Reached → Bool → Type 0
AreEnded z scripts from lane next new true = ((k : ℕ) → k < lane → is_finished z (world_of z scripts from.trace) k ≡ true) × (new ≡ next)
AreEnded z scripts from lane next new false = (k : ℕ) × (is_finished z (world_of z scripts from.trace) k ≡ false)

-- what those turns lead to is in the layer
pub record AreTried (z : Shape) (scripts : List (List Command)) (size : ℕ) (from : Reached) (lane : ℕ) (next new : List Reached)
    (ended : Bool) : Type 0 where
  pub at_end : AreEnded z scripts from lane next new ended
  pub reached : AreReached z scripts (size + 1) new
  pub become : (rest : List Item) → Become z scripts (going 0 from ∷ with_states next rest) (going lane from ∷ with_states new rest)

-- what a state leads to is in the layer and the table, in its place
pub record IsVisited (z : Shape) (scripts : List (List Command)) (size : ℕ) (from : Reached) (next : List Reached) (table : List Outcome)
    (new : List Reached) (told : List Outcome) : Type 0 where
  pub reached : AreReached z scripts (size + 1) new
  pub shown : AreShown z scripts told
  pub become : Become z scripts (going 0 from ∷ with_states next (with_outcomes table)) (with_states new (with_outcomes told))

-- the same of states, but for those that are left
pub record AreVisited (z : Shape) (scripts : List (List Command)) (size : ℕ) (layer : List Reached) (table : List Outcome)
    (left new : List Reached) (told : List Outcome) : Type 0 where
  pub reached : AreReached z scripts (size + 1) new
  pub shown : AreShown z scripts told
  pub become : Become z scripts (with_states layer (with_outcomes table)) (with_states left (with_states new (with_outcomes told)))

-- how many schedules end in all
abbrev pub all_ways : List Outcome → ℕ
all_ways [] = 0
all_ways (outcome ∷ more) = outcome.ways + all_ways more

-- a state before the first turn
pub record IsStart (start : Reached) : Type 0 where
  pub schedule : start.schedule.items ≡ []
  pub trace : start.trace ≡ []
  pub ways : start.ways ≡ 1

-- the states of a layer and the outcomes so far are what came of the state before the first turn
pub record Searched (z : Shape) (scripts : List (List Command)) (layer : List Reached) (table : List Outcome) : Type 0 where
  pub start : Reached
  pub begins : IsStart start
  pub size : ℕ
  pub reached : AreReached z scripts size layer
  pub shown : AreShown z scripts table
  pub become : Become z scripts (going 0 start ∷ []) (with_states layer (with_outcomes table))
