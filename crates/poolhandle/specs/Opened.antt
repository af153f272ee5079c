-- What the handles of a pool are when it is opened.
use Rattle.std.specs.Prelude.{◌≡◌, ◌≤◌, ℕ, List, [], length, Some, slice_get, Box}
use Rattle.std.specs.declared.alloc.Global.{Global}
use Rattle.std.specs.Arc.{arc_value}
use Rattle.std.specs.Vec.{vec_capacity}
use Rattle.keybits.specs.declared.shape.Shape.{Shape}
use Rattle.shardpool.specs.Tokens.{LaneOf}
use Rattle.shardpool.specs.Opened.{IsFirstLane}
use Rattle.poolhandle.specs.declared.handle.Handle.{Handle}
use Rattle.poolhandle.specs.declared.shared.Shared.{Shared}
use Rattle.poolhandle.specs.Calls.{lane_of, filled}

-- the row of lane 0 has room for all lanes, so that a close takes no memory for them
abbrev pub HasRoom : Shared → Handle → Type 0
HasRoom shared handle = (lane_of handle).number ≡ 0 → shared.pool.shape.lanes ≤ vec_capacity handle.row

-- a handle of this lane with its share of the pool: it fills nothing, and no lane was joined to it
pub record IsFresh (shared : Shared) (lane : LaneOf) (handle : Handle) : Type 0 where
  pub share : arc_value handle.shared ≡ shared
  pub lane_is : lane_of handle ≡ lane
  pub fills : filled handle ≡ []
  pub joined_none : handle.joined ≡ 0
  pub room : HasRoom shared handle

-- the handle of the lane of this number, which has seen and done nothing
pub record IsFirstHandle (shared : Shared) (index : ℕ) (handle : Handle) : Type 0 where
  pub share : arc_value handle.shared ≡ shared
  pub first : IsFirstLane shared.pool index (lane_of handle)
  pub fills : filled handle ≡ []
  pub joined_none : handle.joined ≡ 0
  pub room : HasRoom shared handle

-- a pool of this shape, opened under this number
abbrev pub IsOf : Shape → ℕ → Shared → Type 0
IsOf shape number shared = (shared.pool.shape ≡ shape) × (shared.number ≡ number)

-- by rising number these are the handles of all lanes of one pool, of this shape and opened under this number
pub record AreOpened (shape : Shape) (number : ℕ) (handles : List (Box Handle Global)) : Type 0 where
  pub shared : Shared
  pub shared_is : IsOf shape number shared
  pub count : length handles ≡ shape.lanes
  pub each : (index : ℕ) (handle : Box Handle Global) → slice_get handles index ≡ Some handle → IsFirstHandle shared index handle.value
