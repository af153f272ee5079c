-- The pool of one thread, place by place: what each act needs, what it changes, and which histories are legal.
use Rattle.std.specs.Prelude.{◌≡◌, ◌≢◌, ◌==◌, ◌&&◌, ℕ, ◌+◌, ◌-◌, ◌<◌, Bool, true, false, not, List, [], ◌∷◌, Option, Some, None, if◌then◌else◌}
use Rattle.keybits.specs.declared.shape.Shape.{Shape}
use Rattle.keybits.specs.Places.{shard_of}
use Rattle.keybits.specs.Shapes.{is_place, callers}
use Rattle.keybits.specs.Keys.{place_of, generation_of, is_key}
use Rattle.seqpool.specs.declared.act.Act.{Act}
use Rattle.seqpool.specs.declared.act.Act.TheVariants.{Publish, Get, Release, Clear, Reclaim, Home, Collect}

-- where a place stands: with a lane; published, with its content, the references of each lane and the mark; home; or retired
pub data Phase : Type 0 where
  with : ℕ → Phase
  published : List ℕ → (ℕ → ℕ) → Bool → Phase
  home : Phase
  retired : Phase

-- a place: the generation of its key while it is published, its last one once it is retired, and otherwise its next one
pub record Spot : Type 0 where
  pub generation : ℕ
  pub phase : Phase

-- the pool: each place by its number
abbrev pub Pool : Type 0
Pool = ℕ → Spot

-- a place with this next generation, in this phase
abbrev pub spot : ℕ → Phase → Spot
spot generation phase = record { generation = generation; phase = phase }

-- at first each place is with the lane of its shard, and its next generation is 1
abbrev pub fresh : Pool
fresh place = spot 1 (with (shard_of place))

-- f, but x at i
abbrev pub put : (ℕ → ℕ) → ℕ → ℕ → ℕ → ℕ
put f i x j = if j == i then x else f j

-- the references of a lane to the key of a place
abbrev pub references_in : Phase → ℕ → ℕ
references_in (with k) lane = 0
references_in (published content references mark) lane = references lane
references_in home lane = 0
references_in retired lane = 0

-- the place is published: its key is in the map
abbrev pub is_published : Phase → Bool
is_published (with k) = false
is_published (published content references mark) = true
is_published home = false
is_published retired = false

-- its key is in the map with the mark
abbrev pub is_marked : Phase → Bool
is_marked (with k) = false
is_marked (published content references mark) = mark
is_marked home = false
is_marked retired = false

-- its key is in the map without the mark
abbrev pub is_unmarked : Phase → Bool
is_unmarked (with k) = false
is_unmarked (published content references mark) = not mark
is_unmarked home = false
is_unmarked retired = false

-- the content of its key, where that is in the map without the mark
abbrev pub content_in : Phase → Option (List ℕ)
content_in (with k) = None
content_in (published content references true) = None
content_in (published content references false) = Some content
content_in home = None
content_in retired = None

-- one reference more of the lane
abbrev pub gained : ℕ → Phase → Phase
gained lane (with k) = with k
gained lane (published content references mark) = published content (put references lane (references lane + 1)) mark
gained lane home = home
gained lane retired = retired

-- one reference less of the lane
abbrev pub lost : ℕ → Phase → Phase
lost lane (with k) = with k
lost lane (published content references mark) = published content (put references lane (references lane - 1)) mark
lost lane home = home
lost lane retired = retired

-- the same with the mark
abbrev pub marked : Phase → Phase
marked (with k) = with k
marked (published content references mark) = published content references true
marked home = home
marked retired = retired

-- the key is at its place: of the shape, and of the generation that the place has
abbrev pub is_current : Shape → Pool → ℕ → Bool
is_current z pool key = is_key z key && ((pool (place_of key)).generation == generation_of key)

-- what a get of the key shows
abbrev pub found : Shape → Pool → ℕ → Option (List ℕ)
found z pool key = if is_current z pool key then content_in (pool (place_of key)).phase else None

-- whether a clear of the key marks it
abbrev pub clears : Shape → Pool → ℕ → Bool
clears z pool key = is_current z pool key && is_unmarked (pool (place_of key)).phase

-- the references of a lane to a key
abbrev pub references : Shape → Pool → ℕ → ℕ → ℕ
references z pool lane key = if is_current z pool key then references_in (pool (place_of key)).phase lane else 0

-- the key is in the map
abbrev pub has_key : Shape → Pool → ℕ → Bool
has_key z pool key = is_current z pool key && is_published (pool (place_of key)).phase

-- whether a number is in a list
abbrev pub has : List ℕ → ℕ → Bool
has [] n = false
has (x ∷ xs) n = if n == x then true else has xs n

-- no number is in the list twice
abbrev pub NoRepeats : List ℕ → Type 0
NoRepeats [] = Unit {0}
NoRepeats (x ∷ xs) = (has xs x ≡ false) × NoRepeats xs

-- each place of the list is home and of the shard
abbrev pub AllHome : Shape → Pool → ℕ → List ℕ → Type 0
AllHome z pool shard [] = Unit {0}
AllHome z pool shard (place ∷ more) =
    (is_place z place ≡ true) × (shard_of place ≡ shard) × ((pool place).phase ≡ home) × AllHome z pool shard more

-- the lane that acts
abbrev pub lane_of : Act → ℕ
lane_of (Publish lane key content with_ref) = lane
lane_of (Get lane key reply) = lane
lane_of (Release lane key) = lane
lane_of (Clear lane key reply) = lane
lane_of (Reclaim lane key) = lane
lane_of (Home lane place) = lane
lane_of (Collect lane places) = lane

-- what an act needs, beside a caller of the shape, and which reply it has
abbrev pub Allowed : Shape → Pool → Act → Type 0
Allowed z pool (Publish lane key content with_ref) =
    (is_current z pool key ≡ true) × ((pool (place_of key)).phase ≡ with lane)
Allowed z pool (Get lane key reply) = reply ≡ found z pool key
Allowed z pool (Release lane key) = 0 < references z pool lane key
Allowed z pool (Clear lane key reply) = reply ≡ clears z pool key
Allowed z pool (Reclaim lane key) =
    (is_current z pool key ≡ true) × (is_marked (pool (place_of key)).phase ≡ true)
    × ((other : ℕ) → references_in (pool (place_of key)).phase other ≡ 0)
Allowed z pool (Home lane place) = (is_place z place ≡ true) × ((pool place).phase ≡ with lane) × (shard_of place ≢ lane)
Allowed z pool (Collect lane places) = (places ≢ []) × NoRepeats places × AllHome z pool lane places

-- the act is of this place
abbrev pub touches : Act → ℕ → Bool
touches (Publish lane key content with_ref) place = place == place_of key
touches (Get lane key reply) place = place == place_of key
touches (Release lane key) place = place == place_of key
touches (Clear lane key reply) place = place == place_of key
touches (Reclaim lane key) place = place == place_of key
touches (Home lane at) place = place == at
touches (Collect lane places) place = has places place

-- what an act makes of a place that it is of
abbrev pub changed : ℕ → Act → Spot → Spot
changed last (Publish lane key content with_ref) s =
    spot s.generation (published content (put (λ _. 0) lane (if with_ref then 1 else 0)) false)
changed last (Get lane key None) s = s
changed last (Get lane key (Some content)) s = spot s.generation (gained lane s.phase)
changed last (Release lane key) s = spot s.generation (lost lane s.phase)
changed last (Clear lane key true) s = spot s.generation (marked s.phase)
changed last (Clear lane key false) s = s
changed last (Reclaim lane key) s =
    if s.generation == last then spot s.generation retired else spot (s.generation + 1) (with lane)
changed last (Home lane place) s = spot s.generation home
changed last (Collect lane places) s = spot s.generation (with lane)

-- the pool after an act; every place that the act isn't of stays as it was
abbrev pub after : Shape → Act → Pool → Pool
after z act pool place = if touches act place then changed z.last_generation act (pool place) else pool place

-- the pool after a history, from a pool
abbrev pub pool_from : Shape → Pool → List Act → Pool
pool_from z pool [] = pool
pool_from z pool (act ∷ more) = pool_from z (after z act pool) more

-- each act of a history, made by a lane or a guest of the shape, is allowed after those before it, from a pool
abbrev pub LegalFrom : Shape → Pool → List Act → Type 0
LegalFrom z pool [] = Unit {0}
LegalFrom z pool (act ∷ more) = (lane_of act < callers z) × Allowed z pool act × LegalFrom z (after z act pool) more

-- the pool after a history
abbrev pub pool_after : Shape → List Act → Pool
pool_after z history = pool_from z fresh history

-- a legal history of the pool
abbrev pub IsLegal : Shape → List Act → Type 0
IsLegal z history = LegalFrom z fresh history
