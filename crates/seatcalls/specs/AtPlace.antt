-- Where a call acts, and for which lane.
use Rattle.std.specs.Prelude.{◌≡◌, ◌<◌, ℕ, [], length, slice_index, Option}
use Rattle.atomic_table.specs.declared.shared.Seat.{Seat}
use Rattle.keybits.specs.declared.shape.Shape.{Shape}
use Rattle.keybits.specs.Keys.{place_of}
use Rattle.keybits.specs.Places.{shard_of}
use Rattle.poolsteps.specs.declared.view.View.{View}
use Rattle.poolsteps.specs.declared.grid.Grid.{Grid}
use Rattle.poolsteps.specs.Share.{Share}
use Rattle.poolsteps.specs.Views.{the_lane, pushed_in, IsOne}
use Rattle.poolsteps.specs.Grids.{IsSpot, IsOf}
use Rattle.poolsteps.specs.Told.{IsIdle}
use Rattle.seatcalls.specs.declared.at.At.{At}

-- the spot is that of the place, the lane is the seat's and one of the shape's, and the tops have the word that it last pushed to the place's shard
pub record IsAt (z : Shape) (view : View) (place : ℕ) (at : At) : Type 0 where
  pub spot : IsSpot z at.spot place
  pub lane : at.lane ≡ (the_lane view).lane
  pub below : at.lane < z.lanes
  pub shard : shard_of place < length at.tops.now.items
  pub top : slice_index at.tops.now.items (shard_of place) ≡ pushed_in (the_lane view).pushed (shard_of place)

module _ {T : Type 0} (grid : Grid T) (seat : Seat (Option (Share T)) View) where
  -- the hand is one lane's of the grid, with no share in it, and acts at a place that stands here
  pub record MayAct (place : ℕ) (acting : At) : Type 0 where
    pub hand : IsOf grid seat × IsOne seat.me.0
    pub bare : seat.me.1 ≡ []
    pub at : IsAt grid.shape seat.me.0 place acting

  -- and it is between two calls, the next of which is one of this key
  pub record MayCall (key : ℕ) (acting : At) : Type 0 where
    pub act : MayAct (place_of key) acting
    pub idle : IsIdle seat.me.0
