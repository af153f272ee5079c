-- Places that are with a lane, by what the lane has seen and did.
use Rattle.std.specs.Prelude.{◌≡◌, ℕ, ◌≤◌, true, []}
use Rattle.keybits.specs.declared.shape.Shape.{Shape}
use Rattle.keybits.specs.Places.{shard_of}
use Rattle.keybits.specs.Shapes.{is_place}
use Rattle.seqpool.specs.Pool.{with, pool_after}
use Rattle.poolsteps.specs.Shares.{room_of}
use Rattle.poolsteps.specs.declared.view.View.{View}
use Rattle.poolsteps.specs.Views.{the_lane, known_of}
use Rattle.seatcalls.specs.Carried.{AreEmptied, AreAtRest}

-- a place is with the lane, which has emptied its slots, and its room is at most this
pub record IsBlank (z : Shape) (v : View) (place most : ℕ) : Type 0 where
  pub with_lane : (pool_after z v.seen place).phase ≡ with (the_lane v).lane
  pub emptied : AreEmptied z (the_lane v) place
  pub room : room_of v.seen v.rooms place ≤ most

-- a place of the lane's shard is with the lane, and its object rests in its slot, empty and with at least the place's room
pub record IsResting (z : Shape) (v : View) (place : ℕ) : Type 0 where
  pub inside : is_place z place ≡ true
  pub own : shard_of place ≡ (the_lane v).lane
  pub with_lane : (pool_after z v.seen place).phase ≡ with (the_lane v).lane
  pub rests : AreAtRest z (the_lane v) place
  pub empty : (known_of (the_lane v) place).content ≡ []
  pub room : room_of v.seen v.rooms place ≤ (known_of (the_lane v) place).room
