-- The places and the pages of one shard.
use Rattle.std.specs.Prelude.{◌≡◌, ℕ, ◌<◌}
use Rattle.keybits.specs.declared.shape.Shape.{Shape}
use Rattle.keybits.specs.declared.shape.TheConstants.{MOST_LANES}
use Rattle.keybits.specs.declared.place.Place.{Place}
use Rattle.keybits.specs.Places.{shard_of, page_of, slot_of}
use Rattle.keybits.specs.Shapes.{IsShape, page_size}

-- the most places of a shard: of sixteen pages, of which the first has 64
abbrev pub most_places : ℕ
most_places = 44992

-- a shape whose shards have these pages; there are as many shards as there can be
abbrev pub shape_of : ℕ → ℕ → Shape
shape_of first_page pages = record { lanes = MOST_LANES; first_page = first_page; pages = pages; last_generation = 1; tag = 0; guests = 0 }

-- the shape is within its limits, and there is a shard of this number
pub record IsShardOf (shard : ℕ) (z : Shape) : Type 0 where
  pub shape : IsShape z
  pub shard_below : shard < z.lanes

-- an own place: of this shard, and in one of its pages
pub record IsOwn (shard : ℕ) (z : Shape) (place : Place) : Type 0 where
  pub of_shard : place.shard ≡ shard
  pub in_pages : place.page < z.pages
  pub in_page : place.slot < page_size z place.page

-- the place of this number
abbrev pub place_numbered : ℕ → Place
place_numbered number = record { shard = shard_of number; page = page_of number; slot = slot_of number }

-- a shard, the shape that tells the sizes of its pages, and how many of them are opened, from the lowest on
pub record ShardPages : Type 0 where
  pub shard : ℕ
  pub shape : Shape
  pub opened : ℕ
