-- Rows of a pool's lanes and guests.
use Rattle.std.specs.Prelude.{◌≡◌, ℕ, List, Some, slice_get}
use Rattle.seatcalls.specs.Visitors.{GuestOf}
use Rattle.shardpool.specs.Tokens.{PoolOf, LaneOf, GuestsOf}
use Rattle.shardpool.specs.Lanes.{Owns, OwnsGuest}

-- each lane of the row is the pool's
abbrev pub AreLanesOf : PoolOf → List LaneOf → Type 0
AreLanesOf pool lanes = (index : ℕ) (lane : LaneOf) → slice_get lanes index ≡ Some lane → Owns pool lane

-- each guest of the row is the pool's
abbrev pub AreGuestsOf : PoolOf → List GuestOf → Type 0
AreGuestsOf pool guests = (index : ℕ) (guest : GuestOf) → slice_get guests index ≡ Some guest → OwnsGuest pool guest

-- these are the pool's guests that weren't dealt
abbrev pub IsDealerOf : PoolOf → GuestsOf → Type 0
IsDealerOf pool undealt = (undealt.table ≡ pool.table) × (undealt.shape ≡ pool.shape)

-- the lane of this number is in the row
abbrev pub HasLane : List LaneOf → ℕ → Type 0
HasLane lanes number = (index : ℕ) × (lane : LaneOf) × (slice_get lanes index ≡ Some lane) × (lane.number ≡ number)

-- the guest of this number is in the row
abbrev pub HasGuest : List GuestOf → ℕ → Type 0
HasGuest guests number = (index : ℕ) × (guest : GuestOf) × (slice_get guests index ≡ Some guest) × (guest.number ≡ number)
