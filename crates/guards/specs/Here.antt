-- Which lanes of a pool are here, each under its number.
use Rattle.std.specs.Prelude.{◌≡◌, ◌≢◌, ◌↔◌, ℕ, ◌<◌, List, length, Option, Some, None, slice_get, slice_index_or}
use Rattle.shardpool.specs.Tokens.{PoolOf, LaneOf}
use Rattle.shardpool.specs.Lanes.{Owns, refs}
use Rattle.shardpool.specs.Opened.{IsFirstLane}
use Rattle.poollaws.specs.Cleared.{cleared_by, AreAmong}

-- the lanes of a pool that are here: a slot for each number
pub record LanesOf : Type 0 where
  pub pool : PoolOf
  pub slots : List (Option LaneOf)

-- the lane of this number, if it is here
abbrev pub lane_at : LanesOf → ℕ → Option LaneOf
lane_at lanes number = slice_index_or lanes.slots number None

-- the pool has no guests, there is a slot for each number, and a lane stands in that of its own
pub record AreSlots (lanes : LanesOf) : Type 0 where
  pub alone : lanes.pool.shape.guests ≡ 0
  pub count : length lanes.slots ≡ lanes.pool.shape.lanes
  pub each : (number : ℕ) (lane : LaneOf) → lane_at lanes number ≡ Some lane → Owns lanes.pool lane × (lane.number ≡ number)

-- each lane of the pool is here, before its first step
abbrev pub AreFirstHere : LanesOf → Type 0
AreFirstHere lanes = (number : ℕ) → number < lanes.pool.shape.lanes → (lane : LaneOf) × (lane_at lanes number ≡ Some lane)
    × IsFirstLane lanes.pool number lane

-- no lane that is here has a reference
pub record HoldNothing (lanes : LanesOf) : Type 0 where
  pub each : (number : ℕ) (lane : LaneOf) → lane_at lanes number ≡ Some lane → refs lane ≡ 0

-- the lanes that are here cleared none but these keys
pub record HaveCleared (keys : List ℕ) (lanes : LanesOf) : Type 0 where
  pub each : (number : ℕ) (lane : LaneOf) → lane_at lanes number ≡ Some lane → AreAmong (cleared_by lane) keys

-- all other lanes are as before, and of the same pool
pub record SameOthers (number : ℕ) (old new : LanesOf) : Type 0 where
  pub pool : new.pool ≡ old.pool
  pub others : (other : ℕ) → other ≢ number → lane_at new other ≡ lane_at old other

-- each lane below this number is here
abbrev pub AreHereBelow : LanesOf → ℕ → Type 0
AreHereBelow lanes number = (low : ℕ) → low < number → (lane : LaneOf) × (lane_at lanes low ≡ Some lane)

-- the lanes of this row are those that are here, in the order of their numbers
abbrev pub AreInRow : LanesOf → List LaneOf → Type 0
AreInRow lanes row = (number : ℕ) (lane : LaneOf) → (slice_get row number ≡ Some lane) ↔ (lane_at lanes number ≡ Some lane)

-- the number is that of the first lane of the pool that isn't here
pub record IsFirstMissing (lanes : LanesOf) (number : ℕ) : Type 0 where
  pub below : number < lanes.pool.shape.lanes
  pub missing : lane_at lanes number ≡ None
  pub first : AreHereBelow lanes number
