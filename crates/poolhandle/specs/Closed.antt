-- Which lanes a close takes.
use Rattle.std.specs.Prelude.{◌≡◌, ℕ, List, length, Some, slice_get}
use Rattle.shardpool.specs.Tokens.{PoolOf, LaneOf}

-- as many lanes as the pool has, each at its number
pub record AreInOrder (pool : PoolOf) (lanes : List LaneOf) : Type 0 where
  pub count : length lanes ≡ pool.shape.lanes
  pub each : (index : ℕ) (lane : LaneOf) → slice_get lanes index ≡ Some lane → lane.number ≡ index
