-- What a closed pool has in its slots, and what is left of it when a cell was dropped.
use Rattle.std.specs.Prelude.{◌≡◌, ◌≢◌, ◌⊎◌, ℕ, ◌<◌, List, Option, Some, None, slice_get, slice_set}
use Rattle.keybits.specs.Shapes.{callers}
use Rattle.core.specs.declared.slots.Slots.{Slots}
use Rattle.core.specs.Mem.Slots.{slots_items, slots_len, slots_ptr, IsFull}
use Rattle.keybits.specs.declared.shape.Shape.{Shape}
use Rattle.keybits.specs.Places.{shard_of}
use Rattle.keybits.specs.Words.{state_in}
use Rattle.poolsteps.specs.Share.{Share}
use Rattle.poolsteps.specs.Spot.{Spot as CellSpot}
use Rattle.poolsteps.specs.Layout.{slot_index, slot_count}

-- one value of a full row is set
pub record IsSet {X : Type 0} (index : ℕ) (value : X) (old new : Slots X) : Type 0 where
  pub items : slots_items new ≡ slice_set (slots_items old) index value
  pub full : IsFull new
  pub count : slots_len new ≡ slots_len old
  pub start : slots_ptr new ≡ slots_ptr old

module _ {T : Type 0} where
  -- a full row of a pool's slots
  abbrev pub IsSlotRow : Shape → Slots (Option (Share T)) → Type 0
  IsSlotRow z slots = IsFull slots × (slots_len slots ≡ slot_count z)

  -- the slot at the index has a share
  abbrev pub HasAt : List (Option (Share T)) → ℕ → Type 0
  HasAt slots index = (share : Share T) × (slice_get slots index ≡ Some (Some share))

  -- the slot at the index has the share of this number, of so many, of the cell that stands there
  pub record HasPart (slots : List (Option (Share T))) (index : ℕ) (spot : CellSpot) (cell number of : ℕ) : Type 0 where
    pub share : Share T
    pub stands : slice_get slots index ≡ Some (Some share)
    pub cell_is : share.cell ≡ cell
    pub spot_is : share.spot ≡ spot
    pub number_is : share.number ≡ number
    pub of_is : share.of ≡ of

  -- each lane's slot of the place has the lane's share of one cell
  pub record IsSpread (spots : ℕ → CellSpot) (z : Shape) (slots : List (Option (Share T))) (place : ℕ) : Type 0 where
    pub cell : ℕ
    pub each : (lane : ℕ) → lane < (callers z) → HasPart slots (slot_index z place lane) (spots place) cell lane (callers z)

  -- the slot of the place's shard has the only share of a cell
  pub record IsResting (spots : ℕ → CellSpot) (z : Shape) (slots : List (Option (Share T))) (place : ℕ) : Type 0 where
    pub cell : ℕ
    pub part : HasPart slots (slot_index z place (shard_of place)) (spots place) cell 0 1

  -- what the slots of a place have, by its lifecycle word: where that is 0 or retired a cell that rests, and where the place is published each lane's share
  pub record HasCell (spots : ℕ → CellSpot) (z : Shape) (slots : List (Option (Share T))) (place word : ℕ) : Type 0 where
    pub resting : word ≡ 0 → IsResting spots z slots place
    pub retired : state_in word ≡ 2 → IsResting spots z slots place
    pub spread : (state_in word ≡ 1) ⊎ (state_in word ≡ 3) → IsSpread spots z slots place

  -- each lane's slot of the place is empty
  abbrev pub IsUnspread : Shape → List (Option (Share T)) → ℕ → Type 0
  IsUnspread z slots place = (lane : ℕ) → lane < (callers z) → slice_get slots (slot_index z place lane) ≡ Some None

  -- the slot of the place's shard is empty
  abbrev pub IsUnrested : Shape → List (Option (Share T)) → ℕ → Type 0
  IsUnrested z slots place = slice_get slots (slot_index z place (shard_of place)) ≡ Some None

  -- the slots of a place have its cell no more, wherever by its lifecycle word they had it
  pub record HasNoCell (z : Shape) (slots : List (Option (Share T))) (place word : ℕ) : Type 0 where
    pub unrested : word ≡ 0 → IsUnrested z slots place
    pub unretired : state_in word ≡ 2 → IsUnrested z slots place
    pub unspread : (state_in word ≡ 1) ⊎ (state_in word ≡ 3) → IsUnspread z slots place

  -- the slots are as before, but perhaps those of the place
  pub record Drains (z : Shape) (place : ℕ) (old new : Slots (Option (Share T))) : Type 0 where
    pub row : IsSlotRow z new
    pub start : slots_ptr new ≡ slots_ptr old
    pub kept : (index : ℕ) → ((lane : ℕ) → lane < (callers z) → index ≢ slot_index z place lane)
        → slice_get (slots_items new) index ≡ slice_get (slots_items old) index
