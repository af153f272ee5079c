-- Shapes: the sizes of pages and shards, and which places there are.
use Rattle.std.specs.Prelude.{◌≡◌, ◌&&◌, ℕ, ◌+◌, ◌-◌, ◌*◌, ◌^◌, ◌<◌, ◌≤◌, Bool, nat_lt, min}
use Rattle.keybits.specs.declared.shape.Shape.{Shape}
use Rattle.keybits.specs.declared.shape.TheConstants.{MOST_LANES, MOST_GUESTS, MOST_PAGES, MOST_PAGE_PLACES, NARROW_LANES, NARROW_PAGES, GREATEST_TAG}
use Rattle.keybits.specs.Places.{shard_of, page_of, slot_of}
use Rattle.keybits.specs.Counts.{sum_below}

-- a first page may have so many places
abbrev pub IsFirstPage : ℕ → Type 0
IsFirstPage size = (k : ℕ) × (k ≤ 6) × (size ≡ 2 ^ k)

-- a shape within the wide limits
pub record IsShape (z : Shape) : Type 0 where
  pub lanes : (1 ≤ z.lanes) × (z.lanes ≤ MOST_LANES)
  pub first_page : IsFirstPage z.first_page
  pub pages : (1 ≤ z.pages) × (z.pages ≤ MOST_PAGES)
  pub generations : 1 ≤ z.last_generation
  pub tag : z.tag ≤ GREATEST_TAG
  pub guests : z.guests ≤ MOST_GUESTS

-- a shape within the narrow limits, which scripts and histories keep to
abbrev pub IsNarrow : Shape → Type 0
IsNarrow z = IsShape z × (z.lanes ≤ NARROW_LANES) × (z.pages ≤ NARROW_PAGES) × (z.guests ≡ 0)

-- how many callers a pool has: its lanes, and its guests, whose numbers follow theirs
abbrev pub callers : Shape → ℕ
callers z = z.lanes + z.guests

-- how many places a page has, where the first one has so many: twice as many as the page before it, but no more than the most
abbrev pub places_of_page : ℕ → ℕ → ℕ
places_of_page first page = min (first * 2 ^ page) MOST_PAGE_PLACES

-- how many places come before a page
abbrev pub places_before : ℕ → ℕ → ℕ
places_before first page = sum_below page (places_of_page first)

-- the place with this index is in this page, where there are so many
pub record IsInPage (first pages page index : ℕ) : Type 0 where
  pub opened : page < pages
  pub starts : places_before first page ≤ index
  pub ends : index - places_before first page < places_of_page first page

-- how many places a page of a shape has
abbrev pub page_size : Shape → ℕ → ℕ
page_size z page = places_of_page z.first_page page

-- how many places of a shard come before a page
abbrev pub page_start : Shape → ℕ → ℕ
page_start z page = places_before z.first_page page

-- how many places a shard has
abbrev pub shard_places : Shape → ℕ
shard_places z = page_start z z.pages

-- how many places there are
abbrev pub all_places : Shape → ℕ
all_places z = z.lanes * shard_places z

-- a place of the shape has this number
abbrev pub is_place : Shape → ℕ → Bool
is_place z n = nat_lt (shard_of n) z.lanes && nat_lt (page_of n) z.pages && nat_lt (slot_of n) (page_size z (page_of n))

-- which place of its shard it is
abbrev pub index_of : Shape → ℕ → ℕ
index_of z n = page_start z (page_of n) + slot_of n

-- which place it is among all places, shard after shard
abbrev pub position_of : Shape → ℕ → ℕ
position_of z n = shard_of n * shard_places z + index_of z n
