-- What a lane does with the share of a key in front of its release.
use Rattle.std.specs.Prelude.{◌≡◌, ℕ, ◌+◌, ◌<◌, List, [], Option, Some, None, slice_get, slice_set}
use Rattle.atomic_table.specs.Table.{Me}
use Rattle.keybits.specs.declared.shape.Shape.{Shape}
use Rattle.poolsteps.specs.Layout.{slot_start}
use Rattle.keybits.specs.Keys.{place_of, generation_of}
use Rattle.poolsteps.specs.declared.grid.Spot.{Spot}
use Rattle.poolsteps.specs.Spot.{Spot as CellSpot}
use Rattle.poolsteps.specs.Moved.{Fetches}
use Rattle.poolsteps.specs.declared.view.Status.TheVariants.{Untouched}
use Rattle.poolsteps.specs.Share.{Share}
use Rattle.poolsteps.specs.declared.view.View.{View}
use Rattle.poolsteps.specs.Views.{the_lane, status_of}
use Rattle.poolsteps.specs.Told.{IsIdle}
use Rattle.seatcalls.specs.Called.{Did, IsUnmoved}
use Rattle.shardpool.specs.HeldKeys.{HeldKey}
use Rattle.shardpool.specs.declared.pool.LaneState.{LaneState}

-- where the row of the key's place counts one reference, its share is back in the lane's slot, and where it counts more, nothing is moved; nothing else of the state is changed
pub record LendsHome {T : Type 0} (z : Shape) (key : ℕ) (before after : Me (Option (Share T)) View) (old new : LaneState T) : Type 0 where
  pub row : HeldKey T
  pub stands : slice_get old.rows.items (slot_start z (place_of key)) ≡ Some row
  pub did : Did z (place_of key) [] 0 2 before after
  pub pushed : (the_lane after.0).pushed ≡ (the_lane before.0).pushed
  pub idle : IsIdle after.0
  -- what is then left of the row's share
  pub share : Option (Share T)
  pub rows : new.rows.items ≡ slice_set old.rows.items (slot_start z (place_of key)) (record row { share = share })
  pub rest : new ≡ record old { rows = new.rows }
  pub gone : row.count ≡ 1 → share ≡ None
  pub last : row.count ≡ 1 → status_of (the_lane after.0) (place_of key) old.number ≡ Untouched
  pub still : 1 < row.count → IsUnmoved (place_of key) (the_lane before.0) (the_lane after.0) × (share ≡ row.share)

-- the row of the key's place has one reference more, to this key, with what was fetched of its share
pub record Gains {T : Type 0} (content : T → List ℕ) (room : T → ℕ) (spots : ℕ
    → CellSpot) (z : Shape) (spot : Spot) (key : ℕ) (row : HeldKey T) (before after : Me (Option (Share T)) View) (old new : LaneState T)
    : Type 0 where
  pub share : Option (Share T)
  pub fetches : Fetches content room spots z spot.place old.number before row.share share after
  pub rows : new.rows.items ≡ slice_set old.rows.items spot.start
      (record { generation = generation_of key; count = row.count + 1; share = share })
