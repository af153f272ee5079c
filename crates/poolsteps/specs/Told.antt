-- What each step and look tells of the seat that made it.
use Rattle.std.specs.Prelude.{◌≡◌, ◌≢◌, ◌==◌, ◌⊎◌, ℕ, ◌+◌, ◌-◌, ◌<◌, Bool, true, false, List, [], ◌∷◌, ◌++◌, length, Option, Some, None, if◌then◌else◌}
use Rattle.atomic_table.specs.Table.{Me}
use Rattle.keybits.specs.declared.shape.Shape.{Shape}
use Rattle.keybits.specs.declared.step.Kind.{Kind}
use Rattle.keybits.specs.declared.step.Kind.TheVariants as kinds
use Rattle.keybits.specs.Places.{shard_of}
use Rattle.keybits.specs.Shapes.{callers, is_place}
use Rattle.keybits.specs.Keys.{place_of, key_number}
use Rattle.keybits.specs.Counts.{times}
use Rattle.keybits.specs.Words.{state_in, generation_in, claimable}
use Rattle.keybits.specs.Steps.{Changes, claim_gives}
use Rattle.seqpool.specs.declared.act.Act.{Act}
use Rattle.seqpool.specs.declared.act.Act.TheVariants as acts
use Rattle.seqpool.specs.Pool.{with, references, references_in, is_marked, is_current, pool_after, IsLegal}
use Rattle.seqpool.specs.Histories.{PublishedAt, acts_of}
use Rattle.poolsteps.specs.declared.view.Stored.{Stored}
use Rattle.poolsteps.specs.declared.view.Status.TheVariants.{Untouched, Emptied, InHand}
use Rattle.poolsteps.specs.Shares.{reclaimer, room_of, MayHave, HasAll}
use Rattle.steplaws.specs.declared.pending.Pending.{Pending}
use Rattle.steplaws.specs.declared.pending.Pending.TheVariants.{Nothing, Undo, Owes, Returns}
use Rattle.steplaws.specs.Calls.{is_hit}
use Rattle.steplaws.specs.StepLaws.{owed_after, reclaim}
use Rattle.poolsteps.specs.declared.steps.Purpose.{Purpose}
use Rattle.poolsteps.specs.declared.steps.Purpose.TheVariants.{ToGet, ToClear}
use Rattle.poolsteps.specs.declared.view.LaneRecord.{LaneRecord}
use Rattle.poolsteps.specs.declared.view.View.{View}
use Rattle.poolsteps.specs.Owners.{ArePublishedByOwners}
use Rattle.poolsteps.specs.Views.{the_lane, status_of, known_of, acts_in, rooms_in, after_step, with_cell}

-- a pool's only lane, which has nothing under way, has a reference to each marked key
abbrev pub Quiet : Shape → View → Type 0
Quiet z v = (callers z) ≡ 1 → (the_lane v).under ≡ Nothing → (place : ℕ) → is_place z place ≡ true
    → is_marked (pool_after z v.seen place).phase ≡ true
    → 0 < references_in (pool_after z v.seen place).phase (the_lane v).lane

-- the lane goes on with these acts of its own, and the rooms beside them, behind what other lanes did, and its record is then this
pub record GoesOn (z : Shape) (before after : View) (made : List Act) (rooms_made : List ℕ) (r : LaneRecord) : Type 0 where
  pub lanes : after.lanes ≡ r ∷ []
  pub between : List Act
  pub seen : after.seen ≡ (before.seen ++ between) ++ made
  pub rooms_between : List ℕ
  pub rooms : after.rooms ≡ (before.rooms ++ rooms_between) ++ rooms_made
  pub paired : (length before.rooms ≡ length before.seen) × (length rooms_between ≡ length between)
  pub others : acts_of r.lane between ≡ []
  pub legal : IsLegal z after.seen
  pub owners : ArePublishedByOwners after.seen
  pub mine : r.mine ≡ acts_of r.lane after.seen
  pub quiet : Quiet z after

-- the seat made one step of this kind, which found the one word and left the other, with this act or none
pub record Steps {S : Type 0} (z : Shape) (kind : Kind) (found left : ℕ) (before after : Me S View) (act : Option Act) (r : LaneRecord) :
    Type 0 where
  -- the step relation
  pub changes : Changes z.last_generation kind found left
  pub goes : GoesOn z before.0 after.0 (acts_in act) (rooms_in r act) r
  pub held : after.1 ≡ before.1
  pub steps : after.0.steps ≡ before.0.steps + 1
  pub looks : after.0.looks ≡ before.0.looks

-- the seat made one step on the word of a row, with this act or none
pub record RowSteps {S : Type 0} (z : Shape) (before after : Me S View) (act : Option Act) (r : LaneRecord) : Type 0 where
  pub goes : GoesOn z before.0 after.0 (acts_in act) (rooms_in r act) r
  pub held : after.1 ≡ before.1
  pub steps : after.0.steps ≡ before.0.steps + 1
  pub looks : after.0.looks ≡ before.0.looks

-- a look that moves nothing
pub record Sees {S : Type 0} (z : Shape) (before after : Me S View) : Type 0 where
  pub goes : GoesOn z before.0 after.0 [] [] (the_lane before.0)
  pub held : after.1 ≡ before.1
  pub steps : after.0.steps ≡ before.0.steps
  pub looks : after.0.looks ≡ before.0.looks + 1

-- a look at the lifecycle word of a place, which has the place's generation
abbrev pub SeesLife : {S : Type 0} → Shape → ℕ → Me S View → ℕ → Me S View → Type 0
SeesLife z place before found after = Sees z before after × (generation_in found ≡ (pool_after z after.0.seen place).generation)

-- the place of a claim that is owed
abbrev pub place_owed : Pending → ℕ
place_owed Nothing = 0
place_owed (Undo key hit) = 0
place_owed (Owes place generation) = place
place_owed (Returns place linked failed) = 0

-- the generation of a claim that is owed
abbrev pub generation_owed : Pending → ℕ
generation_owed Nothing = 0
generation_owed (Undo key hit) = 0
generation_owed (Owes place generation) = generation
generation_owed (Returns place linked failed) = 0

-- what a lane has under way after its claim of this place and generation succeeded: the place to return, where it is of another shard and didn't retire
abbrev pub claimed_under : Shape → ℕ → ℕ → ℕ → Pending
claimed_under z lane place generation = if generation == z.last_generation then Nothing
    else (if shard_of place == lane then Nothing else Returns place None false)

-- how many references to a key the lane has, as it saw
abbrev pub references_seen : Shape → View → ℕ → ℕ
references_seen z v key = references z (pool_after z v.seen) (the_lane v).lane key

-- by what the seat saw, its lane may have the share of this number of the place
abbrev pub MayTouch : Shape → View → ℕ → ℕ → Type 0
MayTouch z v place number = MayHave (reclaimer v.seen place) (the_lane v).lane number (pool_after z v.seen place).phase

-- and all shares of the place are with it
abbrev pub HasPlace : Shape → View → ℕ → Type 0
HasPlace z v place = HasAll (reclaimer v.seen place) (the_lane v).lane (pool_after z v.seen place).phase

-- a key was published with this content
abbrev pub WasPublished : List Act → ℕ → List ℕ → Type 0
WasPublished seen key content = (j : ℕ) × PublishedAt seen j key content

-- the lane left each slot of the place alone
abbrev pub LeftAlone : Shape → LaneRecord → ℕ → Type 0
LeftAlone z r place = (number : ℕ) → number < (callers z) → status_of r place number ≡ Untouched

module _ {S : Type 0} (z : Shape) where
  -- a step of a lifecycle word by the seat's lane, after which it has this under way
  abbrev pub LifeSteps : Kind → ℕ → ℕ → Me S View → Me S View → Option Act → Pending → Type 0
  LifeSteps kind found left before after act under = Steps z kind found left before after act (after_step (the_lane before.0) act under)

  -- ENTER of a get: where it hits, the reply is a content, and the lane's slot is left alone where it had no reference; where it misses, it is none, and the ENTER is to be undone
  abbrev pub EntersGet : ℕ → Me S View → ℕ → Me S View → Type 0
  EntersGet key before found after = let lane : ℕ = (the_lane before.0).lane in
      (is_hit key found ≡ true → (content : List ℕ)
      × (references_seen z before.0 key ≡ 0 → status_of (the_lane before.0) (place_of key) lane ≡ Untouched)
      × LifeSteps kinds.Enter found (found + 4) before after (Some (acts.Get lane key (Some content))) Nothing)
      × (is_hit key found ≡ false → LifeSteps kinds.Enter found (found + 4) before after (Some (acts.Get lane key None)) (Undo key false))

  -- ENTER of a clear: where it hits, there is no act yet; where it misses, the reply is false; it is to be undone
  abbrev pub EntersClear : ℕ → Me S View → ℕ → Me S View → Type 0
  EntersClear key before found after = let lane : ℕ = (the_lane before.0).lane in
      (is_hit key found ≡ true → LifeSteps kinds.Enter found (found + 4) before after None (Undo key true))
      × (is_hit key found ≡ false → LifeSteps kinds.Enter found (found + 4) before after (Some (acts.Clear lane key false))
      (Undo key false))

  -- ENTER, of a get or of a clear
  abbrev pub Enters : Purpose → ℕ → Me S View → ℕ → Me S View → Type 0
  Enters ToGet key before found after = EntersGet key before found after
  Enters ToClear key before found after = EntersClear key before found after

  -- LEAVE: of a release where nothing is under way, and else of the ENTER to undo; where the word was (g, MARKED, 1), the claim of g is owed
  abbrev pub Leaves : ℕ → Me S View → ℕ → Me S View → Type 0
  Leaves key before found after = let r : LaneRecord = the_lane before.0 in let owed : Pending = owed_after (place_of key) found in
      (r.under ≡ Nothing → LifeSteps kinds.Leave found (found - 4) before after (Some (acts.Release r.lane key)) owed)
      × ((hit : Bool) → r.under ≡ Undo key hit → LifeSteps kinds.Leave found (found - 4) before after None owed)

  -- PUBLISH of a cell's content, with a reference or without one
  abbrev pub Publishes : ℕ → Stored → Bool → Me S View → ℕ → Me S View → Type 0
  Publishes key c with_ref before found after = let r : LaneRecord = the_lane before.0 in let act : Option Act = Some
      (acts.Publish r.lane key c.content with_ref) in
      Steps z (kinds.Publish with_ref) found (if with_ref then found + 5
      else found + 1) before after act (with_cell (after_step r act Nothing) (place_of key) c)

  -- MARK: the reply is whether the state was PRESENT
  abbrev pub Marks : ℕ → Me S View → ℕ → Me S View → Type 0
  Marks key before found after =
      LifeSteps kinds.Mark found (found + 3 - state_in found) before after
      (Some (acts.Clear (the_lane before.0).lane key (state_in found == 1))) (Undo key true)

  -- MARK from the one word that is expected; where another is found it was a look
  abbrev pub MarksFrom : ℕ → ℕ → Me S View → ℕ → Me S View → Type 0
  MarksFrom expected key before found after = (found ≡ expected → Marks key before found after) × (found ≢ expected → Sees z before after)

  -- CLAIM: it succeeds from the one word alone; the lane then has all shares of the place, in slots that it left alone, and knows their cell, whose room is the place's
  -- and whose content the key was published with
  abbrev pub Claims : ℕ → ℕ → Me S View → ℕ → Me S View → Type 0
  Claims place generation before found after = let r : LaneRecord = the_lane before.0 in let act : Option Act = Some
      (reclaim z r.lane place generation) in
      (found ≡ claimable generation → (c : Stored) × HasPlace z after.0 place × (c.room ≡ room_of after.0.seen after.0.rooms place)
      × LeftAlone z r place
      × Steps z (kinds.Claim generation) found (claim_gives z.last_generation generation found) before after
      act (with_cell (after_step r act (claimed_under z r.lane place generation)) place c)
      × WasPublished after.0.seen (key_number z.tag place generation) c.content)
      × (found ≢ claimable generation → LifeSteps (kinds.Claim generation) found found before after None Nothing)

-- ---- what the steps ask

-- the place of a claim that the seat's lane owes
abbrev pub owed_place : View → ℕ
owed_place v = place_owed (the_lane v).under

-- the generation of a claim that the seat's lane owes
abbrev pub owed_generation : View → ℕ
owed_generation v = generation_owed (the_lane v).under

-- nothing is under way
abbrev pub IsIdle : View → Type 0
IsIdle v = (the_lane v).under ≡ Nothing

-- the lane has a reference to give back, and its share is in its slot where it is the last one; or it has an ENTER to undo
abbrev pub MayLeave : Shape → View → ℕ → Type 0
MayLeave z v key = (IsIdle v × (0 < references_seen z v key)
    × (status_of (the_lane v) (place_of key) (the_lane v).lane ≢ Untouched → 1 < references_seen z v key))
    ⊎ ((hit : Bool) × ((the_lane v).under ≡ Undo key hit))

-- a lane that has all shares of a place may have this cell there: the one that it knows, or a new one, where it has every share in its hands
abbrev pub MayRenew : Shape → View → ℕ → Stored → Type 0
MayRenew z v place c = (c ≡ known_of (the_lane v) place)
    ⊎ ((number : ℕ) → number < callers z
    → (status_of (the_lane v) place number ≡ Emptied) ⊎ (status_of (the_lane v) place number ≡ InHand))

-- each slot of the place is left alone, but perhaps the lane's own where it gets a reference
abbrev pub IsShared : Shape → View → ℕ → Bool → Type 0
IsShared z v place with_ref = (number : ℕ) → number < (callers z) → status_of (the_lane v) place number ≢ Untouched
    → (number ≡ (the_lane v).lane) × (with_ref ≡ true)

-- the key is one that the lane may publish: its place is of the lane's shard and with the lane, at this generation, and is not on its taken chain
pub record MayPublish (z : Shape) (v : View) (key : ℕ) : Type 0 where
  pub idle : IsIdle v
  pub own : shard_of (place_of key) ≡ (the_lane v).lane
  pub current : is_current z (pool_after z v.seen) key ≡ true
  pub with_lane : (pool_after z v.seen (place_of key)).phase ≡ with (the_lane v).lane
  pub unchained : times (place_of key) (the_lane v).chain ≡ 0
