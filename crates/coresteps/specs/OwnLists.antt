-- A lane's own free places: what the page opened last, the ring and the place that was added tell of them.
use Rattle.std.specs.Prelude.{◌≡◌, ◌==◌, ℕ, zero, suc, ◌+◌, ◌-◌, ◌<◌, ◌≤◌, List, [], ◌∷◌, ◌++◌, length, Option, Some, None, slice_index, if◌then◌else◌}
use Rattle.keybits.specs.declared.shape.Shape.{Shape}
use Rattle.keybits.specs.Shapes.{page_size, shard_places}
use Rattle.traces.specs.Books.{slots_from}
use Rattle.coresteps.specs.declared.own.OwnList.{OwnList}

-- the position after this one in a ring of this length
abbrev pub next_in_ring : ℕ → ℕ → ℕ
next_in_ring size at = if at + 1 == size then 0 else at + 1

-- so many places of a ring, from this position on
abbrev pub ring_places : List ℕ → ℕ → ℕ → List ℕ
ring_places ring first zero = []
ring_places ring first (suc more) = slice_index ring first ∷ ring_places ring (next_in_ring (length ring) first) more

-- the places of the page opened last, from this slot on; none where no page is opened
abbrev pub unused_places : Shape → ℕ → ℕ → ℕ → List ℕ
unused_places z lane zero slot = []
unused_places z lane (suc page) slot = slots_from lane page slot (page_size z page - slot)

-- the place that was added, if one was
abbrev pub added_places : Option ℕ → List ℕ
added_places None = []
added_places (Some place) = place ∷ []

-- a lane's own free places, in the order in which they are handed out
abbrev pub own_places : Shape → ℕ → List ℕ → OwnList → List ℕ
own_places z lane ring own =
    unused_places z lane own.opened own.unused ++ (ring_places ring own.first own.length ++ added_places own.added)

-- the list lies within its ring, which has room for each place of the shard
pub record IsOwnList (z : Shape) (ring : List ℕ) (own : OwnList) : Type 0 where
  pub pages : own.opened ≤ z.pages
  pub room : length ring ≡ shard_places z
  pub start : own.first < length ring
  pub within : own.length ≤ length ring
