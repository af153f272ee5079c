-- A lane's free places: a queue in a ring, and the first place of a taken chain.
use Rattle.std.specs.Prelude.{◌≡◌, ◌≢◌, ◌==◌, ◌⊎◌, ℕ, zero, suc, ◌+◌, ◌≤◌, List, [], ◌∷◌, length, map, All, Contains, Option, Some, slice_index, if◌then◌else◌}
use Rattle.std.specs.Option.{ForSome}
use Rattle.keybits.specs.declared.shape.Shape.{Shape}
use Rattle.keybits.specs.declared.place.Place.{Place}
use Rattle.keybits.specs.Places.{number_of}
use Rattle.keybits.specs.Counts.{times}
use Rattle.keybits.specs.Shapes.{shard_places}
use Rattle.keybits.specs.Links.{link_to}
use Rattle.freelists.specs.Shards.{IsShardOf, IsOwn, place_numbered}

-- the numbers of places, in order
abbrev pub numbers : List Place → List ℕ
numbers places = map number_of places

-- each is an own place of the shard, and none stands there twice
pub record AreOwn (shard : ℕ) (z : Shape) (places : List Place) : Type 0 where
  pub inside : All (IsOwn shard z) places
  pub each_once : (number : ℕ) → times number (numbers places) ≤ 1

-- a shard, the shape that tells the sizes of its pages, its free places in order, the first place of its taken chain, if one hangs, and the room: for how many places the ring has memory
pub record FreePlaces : Type 0 where
  pub shard : ℕ
  pub shape : Shape
  pub own : List Place
  pub chain : Option Place
  pub room : ℕ

-- a place of the shard that is neither on the own list nor the first of the taken chain
pub record IsAway (free : FreePlaces) (place : Place) : Type 0 where
  pub own : IsOwn free.shard free.shape place
  pub unlisted : ¬ Contains free.own place
  pub unhung : free.chain ≢ Some place

-- the first place of the taken chain, if one hangs, is an own place that isn't on the own list
pub record HangsApart (shard : ℕ) (z : Shape) (own : List Place) (chain : Option Place) : Type 0 where
  pub inside : ForSome chain (IsOwn shard z)
  pub apart : ForSome chain (λ place. ¬ Contains own place)

-- a lane's free places are sound: the shape is within its limits, the own list has own places without repeats, the chain hangs apart, and there is room for every place
pub record AreFree (free : FreePlaces) : Type 0 where
  pub limits : IsShardOf free.shard free.shape
  pub own : AreOwn free.shard free.shape free.own
  pub chain : HangsApart free.shard free.shape free.own free.chain
  pub room : shard_places free.shape ≤ free.room

-- the position after this one in a ring of this length
abbrev pub next_in_ring : ℕ → ℕ → ℕ
next_in_ring size at = if at + 1 == size then 0 else at + 1

-- a position is so many behind another in a ring of this length
abbrev pub IsEnd : ℕ → ℕ → ℕ → ℕ → Type 0
IsEnd size first count end = (first + count ≡ end) ⊎ (first + count ≡ end + size)

-- so many places of a ring, from this position on
abbrev pub listed : List ℕ → ℕ → ℕ → List Place
listed ring first zero = []
listed ring first (suc more) = place_numbered (slice_index ring first) ∷ listed ring (next_in_ring (length ring) first) more

-- a link word by which the taken chain may go on: the end, or a place of the shard that is neither the chain's first place nor an own free one
abbrev pub GoesOnBy : FreePlaces → ℕ → Type 0
GoesOnBy free link = (link ≡ 0) ⊎ ((place : Place) × IsAway free place × (link ≡ link_to (number_of place)))
