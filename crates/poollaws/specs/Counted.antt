-- Under what a census counts the place of a key.
use Rattle.std.specs.Prelude.{◌≡◌, ℕ, ◌+◌, ◌*◌, List, Some, slice_get}
use Rattle.keybits.specs.declared.shape.Shape.{Shape}
use Rattle.keybits.specs.Places.{shard_of}
use Rattle.keybits.specs.Shapes.{shard_places, index_of}
use Rattle.keybits.specs.Keys.{place_of}
use Rattle.seqpool.specs.declared.act.Act.{Act}
use Rattle.shardpool.specs.declared.census.Census.{Census}
use Rattle.shardpool.specs.declared.census.Part.{Part}
use Rattle.shardpool.specs.declared.census.Part.TheVariants.{Present}
use Rattle.shardpool.specs.Tokens.{LaneOf}
use Rattle.shardpool.specs.Closings.{IsCensus}

-- the census counts the place of the key as present
pub record CountsPresent {z : Shape} {history : List Act} {lanes : List LaneOf} {census : Census} (is : IsCensus z history lanes census)
    (key : ℕ) : Type 0 where
  pub index : ℕ
  pub lane : LaneOf
  pub stands : slice_get lanes index ≡ Some lane
  pub own : shard_of (place_of key) ≡ lane.number
  pub part : slice_get is.parts (index * shard_places z + index_of z (place_of key)) ≡ Some Present
