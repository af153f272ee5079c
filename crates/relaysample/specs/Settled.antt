-- What a closed pool says of what was collected.
use Rattle.std.specs.Prelude.{◌≡◌, ◌⊎◌, ℕ, true, List, Some}
use Rattle.seqpool.specs.Pool.{has, NoRepeats}
use Rattle.shardpool.specs.declared.census.Census.{Census}
use Rattle.shardpool.specs.Tokens.{PoolOf, LaneOf}
use Rattle.shardpool.specs.Closings.{Closes}
use Rattle.poollaws.specs.Words.{IsPublished, HasAll}
use Rattle.poollaws.specs.Counted.{CountsPresent}
use Rattle.guards.specs.Here.{LanesOf, lane_at, HaveCleared}
use Rattle.relaysample.specs.declared.rows.Row.{Row}
use Rattle.relaysample.specs.Held.{keys_of, AreRead}

-- a lane that is here has seen each row's line published under its key; no key is in the rows twice; and the lanes cleared no others
pub record AreCollected (lanes : LanesOf) (rows : List Row) : Type 0 where
  pub lane : LaneOf
  pub here : lane_at lanes lane.number ≡ Some lane
  pub read : AreRead lane.book.seen rows
  pub once : NoRepeats (keys_of rows)
  pub cleared : HaveCleared (keys_of rows) lanes

-- one history has all that the lanes have seen. In it what was read is what was logged, each line once; and nothing is lost: each key that was
-- logged is among those that were read, or is counted as present, and where none is counted so each was read
pub record IsSettled (pool : PoolOf) (lanes : List LaneOf) (rows : List Row) (census : Census) : Type 0 where
  pub closes : Closes pool lanes census
  pub all : HasAll lanes closes.history
  pub read : AreRead closes.history rows
  pub once : NoRepeats (keys_of rows)
  pub kept : (key : ℕ) (content : List ℕ) → IsPublished closes.history key content
      → (has (keys_of rows) key ≡ true) ⊎ CountsPresent closes.census_is key
  pub none_left : census.present ≡ 0 → (key : ℕ) (content : List ℕ) → IsPublished closes.history key content
      → has (keys_of rows) key ≡ true
