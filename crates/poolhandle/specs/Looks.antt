-- What a lane does that looks at an object for a caller who keeps no reference.
use Rattle.std.specs.Prelude.{ℕ, List, Some}
use Rattle.seqpool.specs.Histories.{PublishedAt}
use Rattle.shardpool.specs.Tokens.{PoolOf, LaneOf}
use Rattle.shardpool.specs.AfterCalls.{AfterGet, AfterRelease}

-- a get that found the key, a look at the object, which holds what the key was published with, and a release of the reference
pub record Looks {T : Type 0} (content : T → List ℕ) (pool : PoolOf) (key : ℕ) (sees : T → Type 0) (old new : LaneOf) : Type 0 where
  pub between : LaneOf
  pub gets : AfterGet T pool key old between (Some (record { key = key }))
  pub object : T
  pub at : ℕ
  pub published : PublishedAt between.book.seen at key (content object)
  pub looks : sees object
  pub releases : AfterRelease T pool key between new
