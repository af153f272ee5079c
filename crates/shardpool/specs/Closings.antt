-- What the places of a pool are when it is closed.
use Rattle.std.specs.Prelude.{◌≡◌, ◌⊎◌, ℕ, ◌+◌, ◌*◌, ◌<◌, ◌≤◌, true, false, List, [], ◌∷◌, length, Contains, Some, slice_get}
use mathlib.Core.List.{IsPrefix}
use Rattle.keybits.specs.declared.shape.Shape.{Shape}
use Rattle.keybits.specs.declared.place.Place.{Place}
use Rattle.keybits.specs.Places.{shard_of, page_of, number_of}
use Rattle.keybits.specs.Shapes.{all_places, shard_places, is_place, index_of, callers}
use Rattle.keybits.specs.Homes.{AreHome}
use Rattle.keybits.specs.Links.{Leads}
use Rattle.seqpool.specs.declared.act.Act.{Act}
use Rattle.seqpool.specs.Pool.{Phase, with, published, home, retired, has, pool_after, IsLegal}
use Rattle.seqpool.specs.Histories.{acts_of}
use Rattle.keybits.specs.Rows.{row_word}
use Rattle.steplaws.specs.Facts.{Words, State, lane_home, guest_home}
use Rattle.poolsteps.specs.Owners.{ArePublishedByOwners}
use Rattle.poolsteps.specs.Views.{the_lane}
use Rattle.shardpool.specs.declared.census.Census.{Census}
use Rattle.shardpool.specs.declared.census.Part.{Part}
use Rattle.shardpool.specs.declared.census.Part.TheVariants.{Free, Unopened, Filling, Present, Marked, Retired}
use Rattle.shardpool.specs.declared.pool.LaneState.{LaneState}
use Rattle.seatcalls.specs.Visitors.{GuestOf}
use Rattle.shardpool.specs.Tokens.{PoolOf, LaneOf, GuestsOf}
use Rattle.shardpool.specs.Lanes.{Owns, IsKept}
use Rattle.shardpool.specs.LaneStates.{IsFirst}

-- these are all the lanes of the pool: as many as it has, and each number is one's
pub record AreAllLanes (pool : PoolOf) (lanes : List LaneOf) : Type 0 where
  pub count : length lanes ≡ pool.shape.lanes
  pub owned : (index : ℕ) (lane : LaneOf) → slice_get lanes index ≡ Some lane → Owns pool lane
  pub all : (number : ℕ) → number < pool.shape.lanes → (index : ℕ) × (lane : LaneOf) × (slice_get lanes index ≡ Some lane)
      × (lane.number ≡ number)

-- these are all the lanes of the pool, which has no guests
pub record AreLanes (pool : PoolOf) (lanes : List LaneOf) : Type 0 where
  pub alone : pool.shape.guests ≡ 0
  pub count : length lanes ≡ pool.shape.lanes
  pub owned : (index : ℕ) (lane : LaneOf) → slice_get lanes index ≡ Some lane → Owns pool lane
  pub all : (number : ℕ) → number < pool.shape.lanes → (index : ℕ) × (lane : LaneOf) × (slice_get lanes index ≡ Some lane)
      × (lane.number ≡ number)

-- these are all the guests of the pool: those that were never dealt, and of the others as many as there are, each number one's
pub record AreGuests (pool : PoolOf) (undealt : GuestsOf) (dealt : List GuestOf) : Type 0 where
  pub rest : (undealt.table ≡ pool.table) × (undealt.shape ≡ pool.shape)
  pub count : pool.shape.lanes + length dealt ≡ undealt.next
  pub owned : (index : ℕ) (guest : GuestOf) → slice_get dealt index ≡ Some guest → (guest.table ≡ pool.table) × (guest.shape ≡ pool.shape)
  pub all : (number : ℕ) → pool.shape.lanes ≤ number → number < undealt.next → (index : ℕ) × (guest : GuestOf)
      × (slice_get dealt index ≡ Some guest) × (guest.number ≡ number)

-- where a place is after a history
abbrev pub phase_at : List Act → LaneOf → ℕ → Phase
phase_at history lane place = (pool_after lane.shape history place).phase

-- the place stands on the lane's own list
abbrev pub IsOnList : LaneOf → ℕ → Type 0
IsOnList lane place = (at : Place) × Contains lane.free.own at × (number_of at ≡ place)

-- the place is to be followed on the lane's taken chain
abbrev pub IsOnChain : LaneOf → ℕ → Type 0
IsOnChain lane place = has (the_lane lane.book).chain place ≡ true

-- what a place of a lane's shard is after a history: of an unopened page; free, on the lane's list or chain, or home; a filling that wasn't published;
-- under an unmarked key, or under a marked one; or retired
abbrev pub IsPart : List Act → LaneOf → ℕ → Part → Type 0
IsPart history lane place Unopened = (phase_at history lane place ≡ with lane.number) × (lane.pages.opened ≤ page_of place)
IsPart history lane place Free = (phase_at history lane place ≡ home)
    ⊎ ((phase_at history lane place ≡ with lane.number) × (page_of place < lane.pages.opened)
    × (IsOnList lane place ⊎ IsOnChain lane place))
IsPart history lane place Filling = (phase_at history lane place ≡ with lane.number) × (page_of place < lane.pages.opened)
    × (IsOnList lane place → ⊥) × (IsOnChain lane place → ⊥)
IsPart history lane place Present = (content : List ℕ) × (references : ℕ → ℕ)
    × (phase_at history lane place ≡ published content references false)
IsPart history lane place Marked = (content : List ℕ) × (references : ℕ → ℕ)
    × (phase_at history lane place ≡ published content references true)
IsPart history lane place Retired = phase_at history lane place ≡ retired

-- a census of no place
abbrev pub none_counted : Census
none_counted = record { free = 0; unopened = 0; filling = 0; present = 0; marked = 0; retired = 0 }

-- a census with one place more
abbrev pub counted : Census → Part → Census
counted census Free = record census { free = census.free + 1 }
counted census Unopened = record census { unopened = census.unopened + 1 }
counted census Filling = record census { filling = census.filling + 1 }
counted census Present = record census { present = census.present + 1 }
counted census Marked = record census { marked = census.marked + 1 }
counted census Retired = record census { retired = census.retired + 1 }

-- a census with these places more
abbrev pub all_counted : Census → List Part → Census
all_counted census [] = census
all_counted census (part ∷ more) = all_counted (counted census part) more

-- how many places a census counts
abbrev pub places_counted : Census → ℕ
places_counted census = census.free + census.unopened + census.filling + census.present + census.marked + census.retired

-- the census counts what each place is after the history: the places of one lane's shard after those of another, as the lanes stand
pub record IsCensus (z : Shape) (history : List Act) (lanes : List LaneOf) (census : Census) : Type 0 where
  pub parts : List Part
  pub wide : length parts ≡ all_places z
  pub each : (index : ℕ) (lane : LaneOf) (place : ℕ) (part : Part) → slice_get lanes index ≡ Some lane → is_place z place ≡ true
      → shard_of place ≡ lane.number
      → slice_get parts (index * shard_places z + index_of z place) ≡ Some part → IsPart history lane place part
  pub counts : census ≡ all_counted none_counted parts

-- the history of a closed pool: legal, in it owners alone publish, it begins with what each lane saw, and has of each lane just its acts
pub record IsLastHistory (pool : PoolOf) (lanes : List LaneOf) (history : List Act) : Type 0 where
  pub legal : IsLegal pool.shape history
  pub owners : ArePublishedByOwners history
  pub begins : (index : ℕ) (lane : LaneOf) → slice_get lanes index ≡ Some lane → IsPrefix lane.book.seen history
  pub own : (index : ℕ) (lane : LaneOf) → slice_get lanes index ≡ Some lane → (the_lane lane.book).mine ≡ acts_of lane.number history
  -- every marked key has a reference
  pub held : (place : ℕ) (content : List ℕ) (references : ℕ → ℕ) → is_place pool.shape place ≡ true
      → (pool_after pool.shape history place).phase ≡ published content references true → (lane : ℕ) × (lane < pool.shape.lanes)
      × (0 < references lane)

-- a pool with these lanes is closed: one history stands, and the census is that of its places
pub record Closes (pool : PoolOf) (lanes : List LaneOf) (census : Census) : Type 0 where
  pub history : List Act
  pub last : IsLastHistory pool lanes history
  pub census_is : IsCensus pool.shape history lanes census

-- the same of a pool with guests: its history begins with what each guest saw, has of each just its acts, and none of one that was never dealt
pub record ClosesWithGuests (pool : PoolOf) (lanes : List LaneOf) (undealt : GuestsOf) (dealt : List GuestOf) (census : Census) : Type 0
  where
    pub closes : Closes pool lanes census
    pub begins : (index : ℕ) (guest : GuestOf) → slice_get dealt index ≡ Some guest → IsPrefix guest.book.seen closes.history
    pub own : (index : ℕ) (guest : GuestOf) → slice_get dealt index ≡ Some guest
        → (the_lane guest.book).mine ≡ acts_of guest.number closes.history
    pub unmade : (number : ℕ) → undealt.next ≤ number → number < callers pool.shape → acts_of number closes.history ≡ []

-- ---- the parts of a close

-- what a lane keeps, beside the last words of the pool and its history
pub record IsLast {T : Type 0} (z : Shape) (history : List Act) (words : Words) (lane : LaneOf) (state : LaneState T) : Type 0 where
  pub shape_is : (lane.shape ≡ z) × (state.shape ≡ z)
  pub number_is : state.number ≡ lane.number
  pub below : lane.number < z.lanes
  pub free_is : state.free ≡ lane.free
  pub pages_is : state.pages ≡ lane.pages
  pub listed : (place : Place) → Contains lane.free.own place → IsKept z history lane (number_of place)
  pub chained : (place : ℕ) → has (the_lane lane.book).chain place ≡ true → IsKept z history lane place
  pub unopened : (place : ℕ) → is_place z place ≡ true → shard_of place ≡ lane.number → lane.pages.opened ≤ page_of place
      → (pool_after z history place).phase ≡ with lane.number
  pub first : IsFirst lane.free.chain (the_lane lane.book).chain
  pub leads : (word : ℕ) × Leads words.link lane.number word (the_lane lane.book).chain

-- what the lanes keep, the last words of the pool and a history tell of each other
pub record AreLast {T : Type 0} (z : Shape) (history : List Act) (lanes : List LaneOf) (states : List (LaneState T)) (words : Words) :
    Type 0 where
  pub legal : IsLegal z history
  pub state : State z words history
  pub homes : (shard : ℕ) → shard < z.lanes → AreHome z shard words.link (words.stack shard) (lane_home z history shard)
  pub alone : (place owner : ℕ) → is_place z place ≡ true → (pool_after z history place).phase ≡ with owner → shard_of place ≡ owner
  pub bits : (shard : ℕ) → shard < z.lanes → (row : ℕ) → words.bits shard row ≡ row_word shard row (guest_home z history shard)
  pub count : (length lanes ≡ z.lanes) × (length states ≡ z.lanes)
  pub all : (number : ℕ) → number < z.lanes → (index : ℕ) × (lane : LaneOf) × (slice_get lanes index ≡ Some lane) × (lane.number ≡ number)
  pub each : (index : ℕ) (lane : LaneOf) (state : LaneState T) → slice_get lanes index ≡ Some lane → slice_get states index ≡ Some state
      → IsLast z history words lane state

-- ---- a place is one thing alone

-- a place is in one part at most
abbrev pub PartsLaw : Type 0
PartsLaw = (history : List Act) (lane : LaneOf) (place : ℕ) (one other : Part) → IsPart history lane place one
    → IsPart history lane place other → one ≡ other
