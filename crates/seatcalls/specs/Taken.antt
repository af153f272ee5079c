-- What a create does at the table: its TAKEs, its FOLLOW, and the look at a place's generation.
use Rattle.std.specs.Prelude.{◌≡◌, ◌≢◌, ◌==◌, ℕ, ◌+◌, ◌<◌, ◌≤◌, true, false, List, [], ◌∷◌, length, Option, Some, None, if◌then◌else◌}
use mathlib.Core.List.{IsPrefix}
use Rattle.atomic_table.specs.Table.{Me}
use Rattle.keybits.specs.declared.shape.Shape.{Shape}
use Rattle.keybits.specs.declared.step.Step.{Step}
use Rattle.keybits.specs.declared.step.Kind.TheVariants as kinds
use Rattle.keybits.specs.declared.step.Word.TheVariants.{Link}
use Rattle.keybits.specs.Places.{shard_of}
use Rattle.keybits.specs.Shapes.{is_place}
use Rattle.keybits.specs.Steps.{Changes}
use Rattle.keybits.specs.Links.{linked_place}
use Rattle.seqpool.specs.declared.act.Act.{Act}
use Rattle.seqpool.specs.declared.act.Act.TheVariants as acts
use Rattle.seqpool.specs.Pool.{with, has, NoRepeats, pool_after}
use Rattle.poolsteps.specs.declared.view.Stored.{Stored}
use Rattle.poolsteps.specs.Shares.{room_of}
use Rattle.steplaws.specs.Facts.{lane_home}
use Rattle.steplaws.specs.Calls.{Aim, aim, next_step, AreSteps}
use Rattle.steplaws.specs.Calls.Call.{Creating}
use Rattle.poolsteps.specs.declared.view.View.{View}
use Rattle.poolsteps.specs.Views.{the_lane, status_of, known_of}
use Rattle.poolsteps.specs.Returned.{rest_of, taken_record, LeadsTo}
use Rattle.seatcalls.specs.Acted.{Acted}
use Rattle.seatcalls.specs.Bounds.{most_takes}
use Rattle.seatcalls.specs.Carried.{AreEmptied}
use Rattle.seatcalls.specs.Called.{caller_of, Make}

-- the lane made these acts; it pushed nothing, and what it has under way is as before
pub record Went (z : Shape) (made : List Act) (before after : View) : Type 0 where
  pub acted : Acted z made before after
  pub pushed : (the_lane after).pushed ≡ (the_lane before).pushed
  pub under : (the_lane after).under ≡ (the_lane before).under

-- the FOLLOW that comes after a TAKE of this word, if any
abbrev pub follow_aim : ℕ → ℕ → Option Aim
follow_aim lane found = if found == 0 then None else Some (aim kinds.Follow (Link (linked_place lane found)))

-- at a history between what was seen before and after no place of the shard was home that a lane returned
abbrev pub NoneHome : Shape → ℕ → View → View → Type 0
NoneHome z shard before after = (history : List Act) × IsPrefix before.seen history × IsPrefix history after.seen
    × ((place : ℕ) → lane_home z history shard place ≡ false)

-- a place that was collected: of the lane's shard, with the lane, and at rest empty with at least its room
abbrev pub IsCollected : Shape → View → Stored → ℕ → Type 0
IsCollected z v c place = let lane : ℕ = (the_lane v).lane in (is_place z place ≡ true) × (shard_of place ≡ lane)
    × ((pool_after z v.seen place).phase ≡ with lane) × (c.content ≡ []) × (room_of v.seen v.rooms place ≤ c.room)

-- TAKEs of the stacks of the lane's shard, by rising lane, up to the first that isn't 0, whose word this is; 0 where all are
pub record Collects {S : Type 0} (z : Shape) (opened found : ℕ) (before after : Me S View) : Type 0 where
  pub steps : List Step
  pub made : List Act
  pub are : AreSteps (caller_of z before.0) (Creating [] [] opened) [] steps
  pub next : next_step (caller_of z before.0) (Creating [] [] opened) steps ≡ follow_aim (the_lane before.0).lane found
  pub make : Make z (caller_of z before.0) (Creating [] [] opened) steps made
  pub few : length steps ≤ most_takes z
  pub went : Went z made before.0 after.0
  pub held : after.1 ≡ before.1
  pub stepped : after.0.steps ≡ before.0.steps + length steps
  pub looked : after.0.looks ≡ before.0.looks
  pub none : found ≡ 0 → (made ≡ []) × (the_lane after.0 ≡ the_lane before.0) × NoneHome z (the_lane before.0).lane before.0 after.0
  pub some : found ≢ 0 → (places : List ℕ) × (stored : ℕ → Stored) × (made ≡ acts.Collect (the_lane before.0).lane places ∷ [])
      × (0 < length places) × NoRepeats places × LeadsTo z (the_lane before.0).lane found places
      × ((place : ℕ) → has places place ≡ true → IsCollected z after.0 (stored place) place)
      × (the_lane after.0 ≡ taken_record (the_lane before.0) places stored)

-- FOLLOW of the first place of the chain, which rested, and whose object was taken out
pub record FollowsOut {S : Type 0} (z : Shape) (place link : ℕ) (before after : Me S View) : Type 0 where
  pub went : Went z [] before.0 after.0
  pub changes : Changes z.last_generation kinds.Follow link link
  pub leads : LeadsTo z (the_lane before.0).lane link (rest_of (the_lane before.0).chain)
  pub chain : (the_lane after.0).chain ≡ rest_of (the_lane before.0).chain
  pub emptied : AreEmptied z (the_lane after.0) place
  pub deeds : (p number : ℕ) → p ≢ place → status_of (the_lane after.0) p number ≡ status_of (the_lane before.0) p number
  pub cells : (p : ℕ) → p ≢ place → known_of (the_lane after.0) p ≡ known_of (the_lane before.0) p
  pub held : after.1 ≡ before.1
  pub stepped : after.0.steps ≡ before.0.steps + 1
  pub looked : after.0.looks ≡ before.0.looks + 2
