-- What becomes of the shares under references when a pool is closed.
use Rattle.std.specs.Prelude.{◌≡◌, ◌≢◌, ℕ, ◌<◌, ◌≤◌, Bool, true, List, length, Option, Some, slice_get}
use Rattle.core.specs.declared.slots.Slots.{Slots}
use Rattle.core.specs.Mem.Slots.{slots_items, slots_len, slots_ptr, IsFull}
use Rattle.keybits.specs.declared.shape.Shape.{Shape}
use Rattle.keybits.specs.Places.{shard_of}
use Rattle.keybits.specs.Shapes.{callers, is_place, position_of}
use Rattle.seqpool.specs.declared.act.Act.{Act}
use Rattle.seqpool.specs.Pool.{published, home, retired, has, pool_after}
use Rattle.poolsteps.specs.Share.{Share}
use Rattle.poolsteps.specs.Spot.{Spot as CellSpot}
use Rattle.poolsteps.specs.Views.{the_lane}
use Rattle.poolsteps.specs.Layout.{slot_start, slot_row, slot_index}
use Rattle.poolsteps.specs.Joins.{IsSlotRow, IsSpread, IsResting, IsUnspread, IsUnrested, HasNoCell}
use Rattle.shardpool.specs.HeldKeys.{HeldKey}
use Rattle.shardpool.specs.declared.pool.LaneState.{LaneState}
use Rattle.shardpool.specs.Tokens.{LaneOf}

module _ {T : Type 0} where
  -- where the row counts a reference its share is at this index of the slots, and nothing else is changed
  pub record GivesRow (index : ℕ) (row : HeldKey T) (old new : Slots (Option (Share T))) : Type 0 where
    pub here : (s : Share T) → 0 < row.count → row.share ≡ Some s → slice_get (slots_items new) index ≡ Some (Some s)
    pub still : row.count ≡ 0 → slice_get (slots_items new) index ≡ slice_get (slots_items old) index
    pub kept : (other : ℕ) → other ≢ index → slice_get (slots_items new) other ≡ slice_get (slots_items old) other
    pub full : IsFull new
    pub count : slots_len new ≡ slots_len old
    pub start : slots_ptr new ≡ slots_ptr old

  -- the share under a lane's references to a place is in the lane's slot of it
  abbrev pub IsBack : Shape → ℕ → List (HeldKey T) → List (Option (Share T)) → Type 0
  IsBack z number rows slots = (place : ℕ) → is_place z place ≡ true → (row : HeldKey T) (s : Share T)
      → slice_get rows (slot_start z place) ≡ Some row → 0 < row.count → row.share ≡ Some s
      → slice_get slots (slot_index z place number) ≡ Some (Some s)

  -- no row of the lane that counts a reference has its slot at this index
  abbrev pub IsOff : Shape → ℕ → List (HeldKey T) → ℕ → Type 0
  IsOff z number rows index = (place : ℕ) → is_place z place ≡ true → (row : HeldKey T) → slice_get rows (slot_start z place) ≡ Some row
      → 0 < row.count → index ≢ slot_index z place number

  -- the shares of a lane's rows are in the lane's slots, and every other slot is as before
  pub record GivesBack (z : Shape) (number : ℕ) (rows : List (HeldKey T)) (old new : Slots (Option (Share T))) : Type 0 where
    pub back : IsBack z number rows (slots_items new)
    pub kept : (index : ℕ) → IsOff z number rows index → slice_get (slots_items new) index ≡ slice_get (slots_items old) index
    pub row : IsSlotRow z new
    pub start : slots_ptr new ≡ slots_ptr old

  -- the shares of the rows of the first places are in the lane's slots, and the others are left
  pub record GivesTo (z : Shape) (number : ℕ) (rows : List (HeldKey T)) (count : ℕ) (left : List (HeldKey T))
      (old new : Slots (Option (Share T))) : Type 0 where
    pub back : (place : ℕ) → is_place z place ≡ true → position_of z place < count → (row : HeldKey T) (s : Share T)
        → slice_get rows (slot_start z place) ≡ Some row
        → 0 < row.count → row.share ≡ Some s → slice_get (slots_items new) (slot_index z place number) ≡ Some (Some s)
    pub kept : (index : ℕ) → IsOff z number rows index → slice_get (slots_items new) index ≡ slice_get (slots_items old) index
    pub stay : (place : ℕ) → is_place z place ≡ true → count ≤ position_of z place
        → slice_get left (slot_start z place) ≡ slice_get rows (slot_start z place)
    pub wide : length left ≡ length rows
    pub row : IsSlotRow z new
    pub start : slots_ptr new ≡ slots_ptr old

  -- the states are those of different lanes of the pool, and each has a row where each place stands
  pub record MayHandBack (z : Shape) (states : List (LaneState T)) : Type 0 where
    pub below : (i : ℕ) (state : LaneState T) → slice_get states i ≡ Some state → state.number < z.lanes
    pub wide : (i : ℕ) (state : LaneState T) → slice_get states i ≡ Some state → length state.rows.items ≡ slot_row z
    pub once : (i j : ℕ) (one other : LaneState T) → slice_get states i ≡ Some one → slice_get states j ≡ Some other
        → one.number ≡ other.number → i ≡ j

  -- it is the state without its rows
  abbrev pub IsStripped : LaneState T → LaneState T → Type 0
  IsStripped state left = left ≡ record state { rows = left.rows }

  -- each of these is a state of those, but for its rows
  abbrev pub AreStripped : List (LaneState T) → List (LaneState T) → Type 0
  AreStripped states left = (length left ≡ length states)
      × ((i : ℕ) (one : LaneState T) → slice_get left i ≡ Some one → (state : LaneState T) × (slice_get states i ≡ Some state)
      × IsStripped state one)

  -- so the shares of all rows are in their slots, and every other slot is as before
  pub record HandsBack (z : Shape) (states : List (LaneState T)) (old new : Slots (Option (Share T))) : Type 0 where
    pub back : (i : ℕ) (state : LaneState T) → slice_get states i ≡ Some state → IsBack z state.number state.rows.items (slots_items new)
    pub kept : (index : ℕ) → ((i : ℕ) (state : LaneState T) → slice_get states i ≡ Some state → IsOff z state.number state.rows.items index)
        → slice_get (slots_items new) index ≡ slice_get (slots_items old) index
    pub row : IsSlotRow z new
    pub start : slots_ptr new ≡ slots_ptr old

  -- what the slots have when all shares are back: each published place its shares, and each place that is home, retired or on a lane's taken chain its cell
  pub record HasCells (spots : ℕ
      → CellSpot) (z : Shape) (history : List Act) (lanes : List LaneOf) (slots : List (Option (Share T))) : Type 0 where
    pub spread : (place : ℕ) → is_place z place ≡ true → (content : List ℕ) (references : ℕ → ℕ) (mark : Bool)
        → (pool_after z history place).phase ≡ published content references mark → IsSpread spots z slots place
    pub returned : (place : ℕ) → is_place z place ≡ true → (pool_after z history place).phase ≡ home → IsResting spots z slots place
    pub retires : (place : ℕ) → is_place z place ≡ true → (pool_after z history place).phase ≡ retired → IsResting spots z slots place
    pub taken : (index : ℕ) (lane : LaneOf) (place : ℕ) → is_place z place ≡ true → slice_get lanes index ≡ Some lane
        → has (the_lane lane.book).chain place ≡ true
        → IsResting spots z slots place

  -- the slots of a place have no cell more, where they had one
  pub record IsDrained (z : Shape) (history : List Act) (lanes : List LaneOf) (slots : List (Option (Share T))) (place : ℕ) : Type 0 where
    pub spread : (content : List ℕ) (references : ℕ → ℕ) (mark : Bool)
        → (pool_after z history place).phase ≡ published content references mark → IsUnspread z slots place
    pub returned : (pool_after z history place).phase ≡ home → IsUnrested z slots place
    pub retires : (pool_after z history place).phase ≡ retired → IsUnrested z slots place
    pub taken : (index : ℕ) (lane : LaneOf) → slice_get lanes index ≡ Some lane → has (the_lane lane.book).chain place ≡ true
        → IsUnrested z slots place

  -- the slots are as before, but perhaps those of the shard's places, which have no cell more by these lifecycle words
  pub record DrainsShard (z : Shape) (shard : ℕ) (life : ℕ → ℕ) (old new : Slots (Option (Share T))) : Type 0 where
    pub row : IsSlotRow z new
    pub start : slots_ptr new ≡ slots_ptr old
    pub kept : (place lane : ℕ) → is_place z place ≡ true → lane < callers z → shard_of place ≢ shard
        → slice_get (slots_items new) (slot_index z place lane) ≡ slice_get (slots_items old) (slot_index z place lane)
    pub gone : (place : ℕ) → is_place z place ≡ true → shard_of place ≡ shard → HasNoCell z (slots_items new) place (life place)
