-- What the steps of returns and of takes, and looks, tell of the seat that made them.
use Rattle.std.specs.List.{All}
use Rattle.std.specs.Prelude.{◌≡◌, ◌≢◌, ◌⊎◌, ℕ, ◌<◌, ◌≤◌, Bool, true, false, List, [], ◌∷◌, ◌++◌, length, Option, Some, None}
use Rattle.atomic_table.specs.Table.{Me}
use Rattle.keybits.specs.declared.place.TheConstants.{SHARD_NUMBERS}
use Rattle.keybits.specs.declared.shape.Shape.{Shape}
use Rattle.keybits.specs.declared.step.Kind.TheVariants as kinds
use Rattle.keybits.specs.Places.{shard_of}
use Rattle.keybits.specs.Shapes.{callers, is_place}
use Rattle.keybits.specs.Links.{link_to, linked_place}
use Rattle.seqpool.specs.declared.act.Act.{Act}
use Rattle.seqpool.specs.declared.act.Act.TheVariants as acts
use Rattle.seqpool.specs.Pool.{has}
use Rattle.poolsteps.specs.declared.view.Stored.{Stored}
use Rattle.poolsteps.specs.Shares.{room_of, at_rest}
use Rattle.steplaws.specs.declared.pending.Pending.{Pending}
use Rattle.steplaws.specs.declared.pending.Pending.TheVariants.{Nothing, Undo, Owes, Returns}
use Rattle.steplaws.specs.Facts.{home_in, guest_home, returner}
use Rattle.steplaws.specs.StepLaws.{row_of}
use Rattle.poolsteps.specs.declared.view.Deed.TheVariants.{Returned, Collected}
use Rattle.poolsteps.specs.declared.view.LaneRecord.{LaneRecord}
use Rattle.poolsteps.specs.declared.view.Heard.{Heard}
use Rattle.poolsteps.specs.declared.view.View.{View}
use Rattle.poolsteps.specs.Views.{the_lane, pushed_in, status_of, known_of}
use Rattle.poolsteps.specs.Seats.{HasHeard, SawLonger}
use Rattle.poolsteps.specs.Told.{Steps, RowSteps, Sees, HasPlace}
use Rattle.keybits.specs.Rows.{set_places}

-- ---- the record after each step

-- the place is still to be returned: what was linked, and whether a PUSH of it failed
abbrev pub with_return : LaneRecord → ℕ → Option ℕ → Bool → LaneRecord
with_return r place linked failed = record r { under = Returns place linked failed }

-- after a PUSH of this place that succeeded
abbrev pub pushed_record : LaneRecord → ℕ → LaneRecord
pushed_record r place = record r {
  mine = r.mine ++ acts.Home r.lane place ∷ [];
  under = Nothing;
  pushed = (shard_of place, link_to place) ∷ r.pushed;
  deeds = Returned place ∷ r.deeds;
}

-- these cells of places are known, and the others as before
abbrev pub with_cells : (ℕ → Stored) → List ℕ → List (ℕ × Stored) → List (ℕ × Stored)
with_cells stored [] cells = cells
with_cells stored (place ∷ more) cells = (place, stored place) ∷ with_cells stored more cells

-- after a TAKE of these places, with these cells
abbrev pub taken_record : LaneRecord → List ℕ → (ℕ → Stored) → LaneRecord
taken_record r places stored = record r {
  mine = r.mine ++ acts.Collect r.lane places ∷ [];
  chain = places;
  deeds = Collected places ∷ r.deeds;
  cells = with_cells stored places r.cells;
}

-- the places but the first
abbrev pub rest_of : List ℕ → List ℕ
rest_of [] = []
rest_of (place ∷ more) = more

-- after a FOLLOW
abbrev pub followed_record : LaneRecord → LaneRecord
followed_record r = record r { chain = rest_of r.chain }

-- after a guest's RETURN of this place
abbrev pub given_record : LaneRecord → ℕ → LaneRecord
given_record r place = record r { mine = r.mine ++ acts.Home r.lane place ∷ []; under = Nothing; deeds = Returned place ∷ r.deeds }

-- after a GATHER of these places, with these cells
abbrev pub gathered_record : LaneRecord → List ℕ → (ℕ → Stored) → LaneRecord
gathered_record r places stored = record r {
  mine = r.mine ++ acts.Collect r.lane places ∷ [];
  deeds = Collected places ∷ r.deeds;
  cells = with_cells stored places r.cells;
}

-- ---- what the steps ask

-- the place that is to be returned
abbrev pub place_under : Pending → ℕ
place_under Nothing = 0
place_under (Undo key hit) = 0
place_under (Owes place generation) = 0
place_under (Returns place linked failed) = place

-- whether a PUSH of it failed
abbrev pub failed_under : Pending → Bool
failed_under Nothing = false
failed_under (Undo key hit) = false
failed_under (Owes place generation) = false
failed_under (Returns place linked failed) = failed

-- the seat's lane has this place still to return
abbrev pub IsToReturn : View → ℕ → Option ℕ → Type 0
IsToReturn v place linked = (the_lane v).under ≡ Returns place linked (failed_under (the_lane v).under)

-- the top that a PUSH of the lane expects: the word that it last pushed there, and 0 after a PUSH that failed
abbrev pub AimsAt : LaneRecord → ℕ → ℕ → Type 0
AimsAt r place top = ((failed_under r.under ≡ false) × (top ≡ pushed_in r.pushed (shard_of place)))
    ⊎ ((failed_under r.under ≡ true) × (top ≡ 0))

-- by what the seat saw and knows, the place is at rest: whole, with empty content and at least its room
pub record IsAtRest (z : Shape) (v : View) (place : ℕ) : Type 0 where
  pub slots : (number : ℕ) → number < (callers z) → status_of (the_lane v) place number ≡ at_rest place number
  pub empty : (known_of (the_lane v) place).content ≡ []
  pub room : room_of v.seen v.rooms place ≤ (known_of (the_lane v) place).room

-- a word that leads to these places of a shard, or to the end where there are none
abbrev pub LeadsTo : Shape → ℕ → ℕ → List ℕ → Type 0
LeadsTo z shard word [] = word ≡ 0
LeadsTo z shard word (place ∷ more) = (0 < word) × (word ≤ SHARD_NUMBERS) × (place ≡ linked_place shard word) × (is_place z place ≡ true)

-- every home place of the shard was returned by another lane of the pool than this one
abbrev pub NoneFrom : Shape → List Act → ℕ → ℕ → Type 0
NoneFrom z seen shard lane = (place : ℕ) → home_in z seen shard place ≡ true
    → (returner seen place < (callers z)) × (returner seen place ≢ shard) × (returner seen place ≢ lane)

-- no home place of this row of the shard was returned by a guest
abbrev pub NoneGiven : Shape → List Act → ℕ → ℕ → Type 0
NoneGiven z seen shard row = (place : ℕ) → row_of place ≡ row → guest_home z seen shard place ≡ false

-- ---- what the steps tell

module _ {S : Type 0} (z : Shape) where
  -- LINK: the link word of the place to return becomes the expected top
  abbrev pub Links : ℕ → Me S View → Me S View → Type 0
  Links top before after = let r : LaneRecord = the_lane before.0 in
      (found : ℕ) × Steps z (kinds.Link top) found top before after None
      (with_return r (place_under r.under) (Some top) (failed_under r.under))

  -- PUSH: from the expected top the place is home; any other word is 0, after the first PUSH alone
  abbrev pub Pushes : ℕ → Me S View → ℕ → Me S View → Type 0
  Pushes top before found after = let r : LaneRecord = the_lane before.0 in let place : ℕ = place_under r.under in let link : ℕ = link_to
      place in
      (found ≡ top → Steps z (kinds.Push top link) found link before after (Some (acts.Home r.lane place)) (pushed_record r place))
      × (found ≢ top → (found ≡ 0) × (failed_under r.under ≡ false)
      × Steps z (kinds.Push top link) found found before after None (with_return r place None true))

  -- TAKE of the stack of another lane: what it pushed there becomes the taken chain, with all shares of its places, at rest, whose cells are then known; where it is empty, none of its returns is home
  abbrev pub Takes : ℕ → Me S View → ℕ → Me S View → Type 0
  Takes from before found after = let r : LaneRecord = the_lane before.0 in
      (found ≡ 0 → NoneFrom z after.0.seen r.lane from × Steps z kinds.Take found 0 before after None r)
      × (found ≢ 0 → (places : List ℕ) × (stored : ℕ → Stored) × (0 < length places) × LeadsTo z r.lane found places
      × ((place : ℕ) → has places place ≡ true → HasPlace z after.0 place × ((stored place).content ≡ [])
      × (room_of after.0.seen after.0.rooms place ≤ (stored place).room))
      × Steps z kinds.Take found 0 before after (Some (acts.Collect r.lane places)) (taken_record r places stored))

  -- FOLLOW: the link word of the chain's first place leads to its rest
  abbrev pub Follows : Me S View → ℕ → Me S View → Type 0
  Follows before found after = let r : LaneRecord = the_lane before.0 in
      LeadsTo z r.lane found (rest_of r.chain) × Steps z kinds.Follow found found before after None (followed_record r)

  -- RETURN of the place that a guest has to return: it is home
  abbrev pub GivesBit : Me S View → ℕ → Me S View → Type 0
  GivesBit before found after = let r : LaneRecord = the_lane before.0 in let place : ℕ = place_under r.under in
      RowSteps z before after (Some (acts.Home r.lane place)) (given_record r place)

  -- GATHER of a row: the places whose bits were set are with the lane, at rest, and their cells are then known
  abbrev pub Gathers : ℕ → Me S View → ℕ → Me S View → Type 0
  Gathers row before found after = let r : LaneRecord = the_lane before.0 in let places : List ℕ = set_places r.lane row found in
      (found ≡ 0 → RowSteps z before after None r)
      × (found ≢ 0 → (stored : ℕ → Stored)
      × ((place : ℕ) → has places place ≡ true → HasPlace z after.0 place × ((stored place).content ≡ [])
      × (room_of after.0.seen after.0.rooms place ≤ (stored place).room))
      × RowSteps z before after (Some (acts.Collect r.lane places)) (gathered_record r places stored))

  -- after which the row has no place that a guest returned
  abbrev pub EmptiesRow : ℕ → Me S View → ℕ → Me S View → Type 0
  EmptiesRow row before found after = Gathers row before found after × NoneGiven z after.0.seen (the_lane before.0).lane row

  -- a look, after which the seat saw all that it was told, with the rooms beside it
  abbrev pub SeesTold : Me S View → Me S View → Type 0
  SeesTold before after = Sees z before after × All (HasHeard after.0) before.0.told

  -- a look after which the seat saw what it was told last, and no further than that or than it had
  abbrev pub SeesNoFurther : Me S View → Me S View → Type 0
  SeesNoFurther before after = Sees z before after
      × ((heard : Heard) (more : List Heard) → before.0.told ≡ heard ∷ more → SawLonger before.0 heard after.0 × HasHeard after.0 heard)
