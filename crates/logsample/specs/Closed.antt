-- What a closed log says of its entries.
use Rattle.std.specs.Prelude.{◌≡◌, ◌⊎◌, ℕ, List}
use Rattle.shardpool.specs.declared.census.Census.{Census}
use Rattle.shardpool.specs.Tokens.{PoolOf, LaneOf}
use Rattle.shardpool.specs.Closings.{Closes}
use Rattle.poollaws.specs.Words.{IsPublished, IsCleared, HasAll}
use Rattle.poollaws.specs.Counted.{CountsPresent}

-- one history has all that the lanes have seen; each entry that was published is cleared in it, or counted as present, and where none is counted so each is cleared
pub record IsSettled (pool : PoolOf) (lanes : List LaneOf) (census : Census) : Type 0 where
  pub closes : Closes pool lanes census
  pub all : HasAll lanes closes.history
  pub settled : (key : ℕ) (content : List ℕ) → IsPublished closes.history key content → IsCleared closes.history key
      ⊎ CountsPresent closes.census_is key
  pub none_left : census.present ≡ 0 → (key : ℕ) (content : List ℕ) → IsPublished closes.history key content → IsCleared closes.history key
