-- What calls did, and parts of calls: their steps, the acts that these made, and nothing more.
use Rattle.std.specs.Prelude.{◌≡◌, ◌≢◌, ◌⊎◌, ℕ, ◌+◌, ◌≤◌, true, List, [], ◌∷◌, ◌++◌, length, Option, Some, None, IfSome}
use Rattle.atomic_table.specs.Table.{Me}
use Rattle.poolsteps.specs.Spot.{Spot as CellSpot}
use Rattle.keybits.specs.declared.shape.Shape.{Shape}
use Rattle.keybits.specs.declared.step.Step.{Step}
use Rattle.keybits.specs.Keys.{place_of}
use Rattle.keybits.specs.Places.{shard_of}
use Rattle.keybits.specs.Words.{generation_in}
use Rattle.keybits.specs.Steps.{Changes}
use Rattle.keybits.specs.Links.{link_to}
use Rattle.steplaws.specs.StepLaws.{reclaim}
use Rattle.seqpool.specs.declared.act.Act.{Act}
use Rattle.seqpool.specs.Pool.{IsLegal}
use Rattle.seqpool.specs.Histories.{acts_of}
use Rattle.seqpool.specs.declared.act.Act.TheVariants as acts
use Rattle.poolsteps.specs.declared.view.Status.TheVariants.{Untouched}
use Rattle.steplaws.specs.Calls.{Call, Caller, aim, end_next, next_step, key_in, is_claimed, AreSteps, Makes}
use Rattle.poolsteps.specs.Shares.{room_of}
use Rattle.poolsteps.specs.declared.view.LaneRecord.{LaneRecord}
use Rattle.poolsteps.specs.declared.view.View.{View}
use Rattle.poolsteps.specs.Owners.{ArePublishedByOwners}
use Rattle.poolsteps.specs.Views.{the_lane, pushed_in, status_of, known_of, acts_in}
use Rattle.poolsteps.specs.Told.{Sees, Marks, IsIdle, Quiet, HasPlace, LeftAlone, references_seen}
use Rattle.seatcalls.specs.Acted.{Acted}
use Rattle.seatcalls.specs.Bounds.{most_return_steps, most_end_steps, most_steps, most_end_looks}
use Rattle.seatcalls.specs.Carried.{AreEmptied, AreAtRest}
use Rattle.seatcalls.specs.declared.at.Reclaimed.{Reclaimed}
use Rattle.seatcalls.specs.declared.at.Reclaimed.TheVariants.{Own, Returned, Retired}

-- the caller that a seat's lane is
abbrev pub caller_of : Shape → View → Caller
caller_of z v = record { shape = z; lane = (the_lane v).lane; pushed = pushed_in (the_lane v).pushed }

-- each of these steps of a call met the step relation, and they made these acts
abbrev pub Make : Shape → Caller → Call → List Step → List Act → Type 0
Make z c call [] made = made ≡ []
Make z c call (step ∷ more) made = (act : Option Act) × (links : ℕ → ℕ) × (rest : List Act)
    × Changes z.last_generation step.kind step.before step.after × Makes c call links step act × Make z c call more rest
    × (made ≡ acts_in act ++ rest)

-- what the lane did with the slots of the place, and what it knows of its cell, are as before
pub record IsUnmoved (place : ℕ) (r s : LaneRecord) : Type 0 where
  pub deeds : (number : ℕ) → status_of s place number ≡ status_of r place number
  pub cell : known_of s place ≡ known_of r place

-- between two views the lane made these acts, in so many steps and at most so many looks, and what it did with the shares of other places and its chain are as before
pub record Did {S : Type 0} (z : Shape) (place : ℕ) (made : List Act) (steps looks : ℕ) (before after : Me S View) : Type 0 where
  pub acted : Acted z made before.0 after.0
  pub held : after.1 ≡ before.1
  pub stepped : after.0.steps ≡ before.0.steps + steps
  pub looked : after.0.looks ≤ before.0.looks + looks
  pub chain : (the_lane after.0).chain ≡ (the_lane before.0).chain
  pub deeds : (p number : ℕ) → p ≢ place → status_of (the_lane after.0) p number ≡ status_of (the_lane before.0) p number
  pub cells : (p : ℕ) → p ≢ place → known_of (the_lane after.0) p ≡ known_of (the_lane before.0) p

-- what the seat saw is a legal history, with just its lane's own acts, in which owners alone publish; a pool's only lane, with nothing under way, has a reference to each marked key
abbrev pub IsLawful : Shape → View → Type 0
IsLawful z v = IsLegal z v.seen × ((the_lane v).mine ≡ acts_of (the_lane v).lane v.seen) × Quiet z v × ArePublishedByOwners v.seen

-- these steps of an END, one after another, are those that it makes after the ones made so far
abbrev pub AreEnd : Caller → ℕ → List Step → List Step → Type 0
AreEnd c place done [] = Unit {0}
AreEnd c place done (step ∷ more) = (end_next c place done ≡ Some (aim step.kind step.word)) × AreEnd c place (done ++ step ∷ []) more

-- an END went on by these steps after the ones made so far, up to its last
pub record GoesToEnd {S : Type 0} (z : Shape) (place : ℕ) (done : List Step) (most looks : ℕ) (before after : Me S View) : Type 0 where
  pub steps : List Step
  pub made : List Act
  pub are : AreEnd (caller_of z before.0) place done steps
  pub all : end_next (caller_of z before.0) place (done ++ steps) ≡ None
  pub make : (call : Call) → place_of (key_in call) ≡ place → Make z (caller_of z before.0) call steps made
  pub did : Did z place made (length steps) looks before after
  pub few : length steps ≤ most
  pub idle : IsIdle after.0

-- the return of a place, after a LEAVE and a CLAIM that succeeded below the last generation, at a place of another shard
abbrev pub GivesHome : {S : Type 0} → Shape → ℕ → Me S View → Me S View → Type 0
GivesHome z place before after = (leave claim : Step) → is_claimed (generation_in leave.before) claim.before ≡ true
    → generation_in leave.before ≢ z.last_generation → shard_of place ≢ (the_lane before.0).lane
    → GoesToEnd z place (leave ∷ claim ∷ []) most_return_steps 0 before after

-- what follows a CLAIM of this generation that succeeded
abbrev pub Tails : {S : Type 0} → Shape → ℕ → ℕ → Me S View → Me S View → Type 0
Tails z place generation before after = (leave claim : Step) → generation_in leave.before ≡ generation
    → is_claimed generation claim.before ≡ true
    → GoesToEnd z place (leave ∷ claim ∷ []) most_return_steps most_end_looks before after

-- what follows a LEAVE that found this word
abbrev pub Ends : {S : Type 0} → Shape → ℕ → ℕ → Me S View → Me S View → Type 0
Ends z place found before after = (leave : Step) → leave.before ≡ found
    → GoesToEnd z place (leave ∷ []) most_end_steps most_end_looks before after

-- what became of the place, by what the seat then saw and knows: the object of an own place is empty, with at least the place's room, and a retired place is at rest
abbrev pub IsReclaimed : {T : Type 0} → (T → List ℕ) → (T → ℕ) → Shape → ℕ → ℕ → View → Reclaimed T → Type 0
IsReclaimed content room z place lane v (Own whole) = (shard_of place ≡ lane) × HasPlace z v place × AreEmptied z (the_lane v) place
    × (content whole.object ≡ []) × (room_of v.seen v.rooms place ≤ room whole.object)
IsReclaimed content room z place lane v Returned = shard_of place ≢ lane
IsReclaimed content room z place lane v Retired = AreAtRest z (the_lane v) place

-- what became of a reclaimed place stands in this word
abbrev pub StandsAt : {T : Type 0} → CellSpot → Option (Reclaimed T) → Type 0
StandsAt spot None = Unit {0}
StandsAt spot (Some (Own whole)) = whole.spot ≡ spot
StandsAt spot (Some Returned) = Unit {0}
StandsAt spot (Some Retired) = Unit {0}

-- the acts by which a place was reclaimed at a generation, by what became of it
abbrev pub end_acts : {T : Type 0} → Shape → ℕ → ℕ → ℕ → Option (Reclaimed T) → List Act
end_acts z lane place generation None = []
end_acts z lane place generation (Some (Own whole)) = reclaim z lane place generation ∷ []
end_acts z lane place generation (Some Returned) = reclaim z lane place generation ∷ acts.Home lane place ∷ []
end_acts z lane place generation (Some Retired) = reclaim z lane place generation ∷ []

-- the generation is the last exactly where the place is retired
abbrev pub FitsGeneration : {T : Type 0} → Shape → ℕ → Option (Reclaimed T) → Type 0
FitsGeneration z generation None = Unit {0}
FitsGeneration z generation (Some (Own whole)) = generation ≢ z.last_generation
FitsGeneration z generation (Some Returned) = generation ≢ z.last_generation
FitsGeneration z generation (Some Retired) = generation ≡ z.last_generation

-- where no place was reclaimed, the lane moved nothing; where one was, it had left its slots alone before
abbrev pub MovedNothing : {T : Type 0} → Shape → ℕ → LaneRecord → LaneRecord → Option (Reclaimed T) → Type 0
MovedNothing z place r s None = IsUnmoved place r s
MovedNothing z place r s (Some reclaimed) = LeftAlone z r place

-- the words that the lane pushed, after that
abbrev pub end_pushed : {T : Type 0} → List (ℕ × ℕ) → ℕ → Option (Reclaimed T) → List (ℕ × ℕ)
end_pushed pushed place None = pushed
end_pushed pushed place (Some (Own whole)) = pushed
end_pushed pushed place (Some Returned) = (shard_of place, link_to place) ∷ pushed
end_pushed pushed place (Some Retired) = pushed

-- the lane made these acts, and after them those by which the place was reclaimed, if it was, and pushed it where it was returned; where it was not, the lane moved nothing
abbrev pub EndsWithActs : {T : Type 0} → Shape → ℕ → List Act → View → View → Option (Reclaimed T) → Type 0
EndsWithActs z place first before after reclaimed = let r : LaneRecord = the_lane before in
    ((generation : ℕ) × ((the_lane after).mine ≡ r.mine ++ (first ++ end_acts z r.lane place generation reclaimed))
    × FitsGeneration z generation reclaimed)
    × ((the_lane after).pushed ≡ end_pushed r.pushed place reclaimed) × MovedNothing z place r (the_lane after) reclaimed

-- the lane returned the place
abbrev pub MadeHome : ℕ → View → View → Type 0
MadeHome place before after = let r : LaneRecord = the_lane before in
    ((the_lane after).mine ≡ r.mine ++ acts.Home r.lane place ∷ []) × ((the_lane after).pushed ≡ (shard_of place, link_to place) ∷ r.pushed)

-- what it made and pushed behind its CLAIM of this generation
abbrev pub TailActs : {T : Type 0} → Shape → ℕ → ℕ → View → View → Reclaimed T → Type 0
TailActs z place generation before after (Own whole) = (generation ≢ z.last_generation) × ((the_lane after).mine ≡ (the_lane before).mine)
    × ((the_lane after).pushed ≡ (the_lane before).pushed)
TailActs z place generation before after Returned = (generation ≢ z.last_generation) × MadeHome place before after
TailActs z place generation before after Retired = (generation ≡ z.last_generation)
    × ((the_lane after).mine ≡ (the_lane before).mine) × ((the_lane after).pushed ≡ (the_lane before).pushed)

-- the lane made just this act, and pushed nothing
abbrev pub MadeOne : View → View → Act → Type 0
MadeOne before after act = ((the_lane after).mine ≡ (the_lane before).mine ++ act ∷ [])
    × ((the_lane after).pushed ≡ (the_lane before).pushed)

-- the lane made one call: its steps, the acts of these, and nothing more, in at most so many looks
pub record Called {S : Type 0} (z : Shape) (call : Call) (looks : ℕ) (before after : Me S View) : Type 0 where
  pub steps : List Step
  pub made : List Act
  pub are : AreSteps (caller_of z before.0) call [] steps
  pub all : next_step (caller_of z before.0) call steps ≡ None
  pub make : Make z (caller_of z before.0) call steps made
  pub did : Did z (place_of (key_in call)) made (length steps) looks before after
  pub few : length steps ≤ most_steps
  pub idle : IsIdle after.0

-- the lane made its MARK, at once or after a look that moved nothing
abbrev pub MarksAtLast : {S : Type 0} → Shape → ℕ → Me S View → ℕ → Me S View → Type 0
MarksAtLast z key before found after = Marks z key before found after
    ⊎ ((between : Me _ View) × Sees z before between × Marks z key between found after)

-- a get hit: the reply is a content, the lane moved nothing, and its slot is left alone where it had no reference
abbrev pub GetHits : {S : Type 0} → Shape → ℕ → Me S View → Me S View → Type 0
GetHits z key before after = let r : LaneRecord = the_lane before.0 in
    (bytes : List ℕ) × MadeOne before.0 after.0 (acts.Get r.lane key (Some bytes)) × IsUnmoved (place_of key) r (the_lane after.0)
    × (references_seen z before.0 key ≡ 0 → status_of (the_lane after.0) (place_of key) r.lane ≡ Untouched)

-- a get missed: the reply is none, and this became of its place
abbrev pub GetMisses : {S T : Type 0} → (T → List ℕ) → (T → ℕ) → Shape → ℕ → Me S View → Me S View → Option (Reclaimed T) → Type 0
GetMisses content room z key before after reclaimed = let r : LaneRecord = the_lane before.0 in
    EndsWithActs z (place_of key) (acts.Get r.lane key None ∷ []) before.0 after.0 reclaimed
    × IfSome reclaimed (IsReclaimed content room z (place_of key) r.lane after.0)
