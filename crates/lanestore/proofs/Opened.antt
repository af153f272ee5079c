-- The lanes with which a pool is opened.
use Rattle.std.proofs.Common.{List, All, ap, slice_index_or}
use Rattle.std.proofs.lemmas.Option.{slice_get-get_or}
use Rattle.poolsteps.specs.declared.view.View.{View}
use Rattle.poolsteps.specs.Views.{the_lane}
use Rattle.shardpool.specs.Tokens.{PoolOf, LaneOf}
use Rattle.seatcalls.specs.Left.{held_after}
use Rattle.shardpool.specs.Lanes.{Owns}
use Rattle.shardpool.specs.Opened.{AreFirstLanes}
use Rattle.lanestore.specs.Visits.{IsNew}

-- they are its own, and have no reference
pub all-new : (pool : PoolOf) (lanes : List LaneOf) → AreFirstLanes pool lanes → All (λ (lane : LaneOf). IsNew pool lane) lanes
all-new pool lanes are k d low =
    let first = are.each k (slice_index_or lanes k d) (slice_get-get_or lanes k d low) in (first.owned, ap (λ (view : View). held_after (the_lane view).mine 0) first.book)

pub all-owned : (pool : PoolOf) (lanes : List LaneOf) → All (λ (lane : LaneOf). IsNew pool lane) lanes → All (λ (lane : LaneOf). Owns pool lane) lanes
all-owned pool lanes new k d low = (new k d low).0
