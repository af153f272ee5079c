-- What grids, hands and spots are to each other.
use mathlib.Core.List.{IsPrefix}
use mathlib.Core.Option as maybe
use lib.ListN.{get_elem?}
use Rattle.poolsteps.specs.Share.{Share}
use Rattle.poolsteps.specs.Rule.{World, IsRecord, Stands, first_records}
use Rattle.std.specs.Prelude.{◌≡◌, ◌<◌, ℕ, true, List, [], ◌∷◌, length, slice_get, Option, Some}
use Rattle.atomic_table.specs.declared.shared.Seat.{Seat}
use Rattle.keybits.specs.declared.shape.Shape.{Shape}
use Rattle.keybits.specs.Shapes.{is_place}
use Rattle.poolsteps.specs.declared.grid.Spot.{Spot}
use Rattle.poolsteps.specs.declared.grid.Grid.{Grid}
use Rattle.poolsteps.specs.declared.view.View.{View}
use Rattle.poolsteps.specs.Layout.{slot_start, spots_at}
use Rattle.poolsteps.specs.Views.{first_record, In}
use Rattle.poolsteps.specs.declared.view.LaneRecord.{LaneRecord}

-- the spot is that of this place of the shape
pub record IsSpot (z : Shape) (spot : Spot) (place : ℕ) : Type 0 where
  pub place_is : spot.place ≡ place
  pub inside : is_place z place ≡ true
  pub start : spot.start ≡ slot_start z place

-- the hand is one of the grid
abbrev pub IsOf : {T : Type 0} → Grid T → Seat (Option (Share T)) View → Type 0
IsOf grid hand = hand.table_id ≡ grid.table.shared.table_id

-- it is the same seat of the same table
abbrev pub SameSeat : {S : Type 0} → Seat S View → Seat S View → Type 0
SameSeat old new = (new.table_id ≡ old.table_id) × (new.id ≡ old.id)

-- the hand of this lane of the grid, before its first step
abbrev pub IsFirstHand : {T : Type 0} → Grid T → ℕ → Seat (Option (Share T)) View → Type 0
IsFirstHand grid lane hand = IsOf grid hand
    × (hand.me ≡ (record { lanes = first_record lane ∷ []; seen = []; rooms = []; told = []; steps = 0; looks = 0 }, []))

-- these are the hands of all lanes of the grid, by rising number, before their first steps
pub record AreFirstHands {T : Type 0} (grid : Grid T) (hands : List (Seat (Option (Share T)) View)) : Type 0 where
  pub count : length hands ≡ grid.shape.lanes
  pub each : (lane : ℕ) (hand : Seat (Option (Share T)) View) → slice_get hands lane ≡ Some hand → IsFirstHand grid lane hand

-- the hand of so many callers of the grid from this number on, before their first steps
abbrev pub IsUndealt : {T : Type 0} → Grid T → ℕ → ℕ → Seat (Option (Share T)) View → Type 0
IsUndealt grid from count hand = IsOf grid hand
    × (hand.me ≡ (record { lanes = first_records from count; seen = []; rooms = []; told = []; steps = 0; looks = 0 }, []))

-- these are hands of the grid, at least one, each of one caller or of several
pub record AreHands {T : Type 0} (grid : Grid T) (hands : List (Seat (Option (Share T)) View)) : Type 0 where
  pub some_hand : 0 < length hands
  pub each : (index : ℕ) (hand : Seat (Option (Share T)) View) → slice_get hands index ≡ Some hand → IsOf grid hand × (hand.me.1 ≡ [])

-- the rule holds of these last words and slots with this world, whose history begins with what each hand saw, with the rooms beside it, and has just the acts of its callers
pub record EndsWith {T : Type 0} (content : T → List ℕ) (room : T → ℕ) (grid : Grid T) (hands : List (Seat (Option (Share T)) View))
    (words : List ℕ) (slots : List (Option (Share T))) (w : World) : Type 0 where
  -- the slots that no hand has
  pub homes : List (maybe.Option (Option (Share T)))
  pub at_home : (index : ℕ) (value : Option (Share T)) → get_elem? homes index ≡ maybe.some (maybe.some value)
      → get_elem? slots index ≡ maybe.some value
  pub views : List View
  pub stands : Stands content room (spots_at grid.objects.ptr grid.shape) grid.shape w homes words views
  pub seen : (index : ℕ) (hand : Seat (Option (Share T)) View) → slice_get hands index ≡ Some hand → IsPrefix hand.me.0.seen w.history
  pub rooms : (index : ℕ) (hand : Seat (Option (Share T)) View) → slice_get hands index ≡ Some hand → IsPrefix hand.me.0.rooms w.kept
  pub paired : (index : ℕ) (hand : Seat (Option (Share T)) View) → slice_get hands index ≡ Some hand
      → length hand.me.0.rooms ≡ length hand.me.0.seen
  pub records : (index : ℕ) (hand : Seat (Option (Share T)) View) (r : LaneRecord) → slice_get hands index ≡ Some hand
      → In r hand.me.0.lanes → IsRecord grid.shape w r
