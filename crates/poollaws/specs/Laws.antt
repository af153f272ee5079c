-- Laws of histories, of closed pools and of rooms, each as a client cites it.
use Rattle.std.specs.Prelude.{◌≡◌, ◌⊎◌, ℕ, ◌+◌, ◌<◌, ◌≤◌, Bool, true, false, IsTrue, List, [], ◌∷◌, ◌++◌, Option, Some, None, Result, length, slice_get, Contains, if◌then◌else◌}
use mathlib.Core.List.{IsPrefix}
use Rattle.keybits.specs.declared.shape.Shape.{Shape}
use Rattle.keybits.specs.Places.{shard_of}
use Rattle.keybits.specs.Keys.{place_of, generation_of, is_key}
use Rattle.seqpool.specs.declared.act.Act.{Act}
use Rattle.seqpool.specs.declared.act.Act.TheVariants.{Get}
use Rattle.seqpool.specs.Pool.{has, lane_of, NoRepeats, IsLegal}
use Rattle.seqpool.specs.Histories.{At, PublishedAt, acts_of}
use Rattle.poolsteps.specs.declared.view.View.{View}
use Rattle.poolsteps.specs.Views.{the_lane}
use Rattle.poolsteps.specs.Shares.{room_of}
use Rattle.seatcalls.specs.Sightings.{HasPassed}
use Rattle.shardpool.specs.declared.census.Census.{Census}
use Rattle.shardpool.specs.declared.create.CreateFault.{CreateFault}
use Rattle.shardpool.specs.Tokens.{PoolOf, LaneOf, FillingOf, RefOf}
use Rattle.shardpool.specs.Lanes.{Made, SeesOn, Did}
use Rattle.shardpool.specs.AfterCalls.{AfterCreate, IsPublishing, AfterGet, AfterRelease, AfterClear}
use Rattle.shardpool.specs.Seen.{FoundSince, MissedSince, ClearedSince}
use Rattle.shardpool.specs.Creates.{Gives}
use Rattle.shardpool.specs.Closings.{AreLanes, Closes}
use Rattle.poollaws.specs.Words.{IsPublished, IsCleared, IsGone, IsPresent, HasAll}
use Rattle.poollaws.specs.Cleared.{cleared_by}
use Rattle.poollaws.specs.Rooms.{SawRoom, KnowsRoom}
use Rattle.poollaws.specs.Counted.{CountsPresent}

-- ---- histories that go on

-- an act of a history stands where it stood in each that goes on from it
abbrev pub StandsLaw : Type 0
StandsLaw = (beginning history : List Act) → IsPrefix beginning history → (i : ℕ) (act : Act) → At beginning i act → (i < length beginning)
    × At history i act

-- what was published still is
abbrev pub StaysPublishedLaw : Type 0
StaysPublishedLaw = (beginning history : List Act) → IsPrefix beginning history → (key : ℕ) (content : List ℕ)
    → IsPublished beginning key content → IsPublished history key content

-- what was cleared still is
abbrev pub StaysClearedLaw : Type 0
StaysClearedLaw = (beginning history : List Act) → IsPrefix beginning history → (key : ℕ) → IsCleared beginning key → IsCleared history key

-- of the acts that a lane has seen since, its own are those that it made
abbrev pub OwnActsLaw : Type 0
OwnActsLaw = (made : List Act) (old new : LaneOf) → SeesOn made old new
    → (i : ℕ) (act : Act) → length old.book.seen ≤ i → At new.book.seen i act → lane_of act ≡ (the_lane old.book).lane → Contains made act

-- what is published is a key of the shape
abbrev pub KeyLaw : Type 0
KeyLaw = (z : Shape) (history : List Act) (key : ℕ) (content : List ℕ) → IsLegal z history → IsPublished history key content
    → is_key z key ≡ true

-- ---- keys that are gone

-- no get behind a clear of its key finds it
abbrev pub GoneLaw : Type 0
GoneLaw = (z : Shape) (beginning history : List Act) (key : ℕ) → IsPrefix beginning history → IsLegal z history → IsCleared beginning key
    → (i lane : ℕ) (reply : Option (List ℕ)) → At history i (Get lane key reply) → length beginning ≤ i → reply ≡ None

-- a lane that has seen a clear of a key doesn't find it
abbrev pub UnfoundLaw : Type 0
UnfoundLaw = (key : ℕ) (old new : LaneOf) → IsPrefix old.book.seen new.book.seen → IsCleared old.book.seen key → FoundSince key old new → ⊥

-- a call of a lane that finds nothing comes behind a clear of the key, if the lane saw it published
abbrev pub MissedLaw : Type 0
MissedLaw = (key : ℕ) (old new : LaneOf) → IsPrefix old.book.seen new.book.seen → MissedSince key old new
    → IsGone old.book.seen new.book.seen key

-- a clear of a key that the lane has seen cleared marks nothing
abbrev pub MarksOnceLaw : Type 0
MarksOnceLaw = (key : ℕ) (old new : LaneOf) (marked : Bool) → IsPrefix old.book.seen new.book.seen → IsCleared old.book.seen key
    → (IsTrue marked → ClearedSince key old new) → marked ≡ false

-- a lane that has seen the key's place go on doesn't find the key any more
abbrev pub PassedLaw : Type 0
PassedLaw = (key : ℕ) (old new : LaneOf) → IsPrefix old.book.seen new.book.seen → IsLegal old.shape new.book.seen
    → HasPassed old.shape old.book.seen key → FoundSince key old new → ⊥

-- ---- which keys lanes cleared

-- the calls of a lane clear no key, but for its clears, and its looks clear none
pub record NoneClearedLaw {T : Type 0} (content : T → List ℕ) (room : T → ℕ) : Type 0 where
  pub create : (pool : PoolOf) (old new : LaneOf) (result : Result (FillingOf T) CreateFault) → AfterCreate content room pool old new result
      → cleared_by new ≡ cleared_by old
  pub publish : (pool : PoolOf) (filling : FillingOf T) (with_ref : Bool) (old new : LaneOf)
      → IsPublishing content room pool filling with_ref old new → cleared_by new ≡ cleared_by old
  pub get : (pool : PoolOf) (key : ℕ) (old new : LaneOf) (result : Option RefOf) → AfterGet T pool key old new result
      → cleared_by new ≡ cleared_by old
  pub release : (pool : PoolOf) (key : ℕ) (old new : LaneOf) → AfterRelease T pool key old new → cleared_by new ≡ cleared_by old
  pub look : (old new : LaneOf) → Did [] old new → cleared_by new ≡ cleared_by old

-- a clear clears its key where it answers true, and else none
abbrev pub KeyClearedLaw : Type 0 → Type 0
KeyClearedLaw T = (pool : PoolOf) (key : ℕ) (old new : LaneOf) (result : Bool) → AfterClear T pool key old new result
    → cleared_by new ≡ cleared_by old ++ (if result then key ∷ [] else [])

-- a lane clears no key twice
abbrev pub ClearedOnceLaw : Type 0
ClearedOnceLaw = (z : Shape) (lane : LaneOf) → IsLegal z lane.book.seen → (the_lane lane.book).mine ≡ acts_of lane.number lane.book.seen
    → NoRepeats (cleared_by lane)

-- ---- the end of a history, and the close

-- a published key is cleared, or present at the end, and not both
abbrev pub EndLaw : Type 0
EndLaw = (z : Shape) (history : List Act) (key : ℕ) (content : List ℕ) → IsLegal z history → IsPublished history key content
    → (IsCleared history key ⊎ IsPresent z history key content) × (IsCleared history key → IsPresent z history key content → ⊥)

-- the history of a closed pool has all that its lanes have seen
abbrev pub LastLaw : Type 0
LastLaw = (pool : PoolOf) (lanes : List LaneOf) (census : Census) (closes : Closes pool lanes census) → HasAll lanes closes.history

-- a key that was published is cleared when its pool is closed, or its place is counted as present
abbrev pub CountedLaw : Type 0
CountedLaw = (pool : PoolOf) (lanes : List LaneOf) (census : Census) → AreLanes pool lanes → (closes : Closes pool lanes census)
    → (key : ℕ) (content : List ℕ) → IsPublished closes.history key content → IsCleared closes.history key
    ⊎ CountsPresent closes.census_is key

-- where none is counted as present, each key that was published is cleared
abbrev pub NoneLeftLaw : Type 0
NoneLeftLaw = (pool : PoolOf) (lanes : List LaneOf) (census : Census) → AreLanes pool lanes → (closes : Closes pool lanes census)
    → census.present ≡ 0
    → (key : ℕ) (content : List ℕ) → IsPublished closes.history key content → IsCleared closes.history key

-- each key that is cleared when a pool is closed was cleared by one of its lanes
abbrev pub ClearerLaw : Type 0
ClearerLaw = (pool : PoolOf) (lanes : List LaneOf) (census : Census) → AreLanes pool lanes → (closes : Closes pool lanes census)
    → (key : ℕ) → IsCleared closes.history key
    → (index : ℕ) × (lane : LaneOf) × (slice_get lanes index ≡ Some lane) × (has (cleared_by lane) key ≡ true)

-- ---- rooms

-- a lane that has just published a key knows the room of its place
abbrev pub FirstRoomLaw : Type 0
FirstRoomLaw = (lane : LaneOf) (key size : ℕ) (content : List ℕ) → IsPublished lane.book.seen key content
    → length lane.book.rooms ≡ length lane.book.seen
    → size ≤ room_of lane.book.seen lane.book.rooms (place_of key) → KnowsRoom lane key size

-- what has room for some has room for less
abbrev pub LessRoomLaw : Type 0
LessRoomLaw = (lane : LaneOf) (key size less : ℕ) → KnowsRoom lane key size → less ≤ size → KnowsRoom lane key less

-- what it knows it goes on to know
abbrev pub KeptRoomLaw : Type 0
KeptRoomLaw = (made : List Act) (old new : LaneOf) (key size : ℕ) → SeesOn made old new → KnowsRoom old key size → KnowsRoom new key size

-- what a lane knows of rooms its note tells
abbrev pub ToldRoomLaw : Type 0
ToldRoomLaw = (teller note : View) (key size : ℕ) → note.seen ≡ teller.seen → note.rooms ≡ teller.rooms → SawRoom teller key size
    → SawRoom note key size

-- and whoever hears the note, or meets the lane, knows it too
abbrev pub HeardRoomLaw : Type 0
HeardRoomLaw = (note hearer : View) (key size : ℕ) → IsPrefix note.seen hearer.seen → IsPrefix note.rooms hearer.rooms
    → length hearer.rooms ≡ length hearer.seen → SawRoom note key size → SawRoom hearer key size

-- the object of a filling has the room that its place had under the key before: a key's next has its place and the next generation
abbrev pub ReusedRoomLaw : {T : Type 0} → (T → List ℕ) → (T → ℕ) → Type 0
ReusedRoomLaw {T} content room = (old new : LaneOf) (filling : FillingOf T) (key size : ℕ) → Gives content room old new filling
    → KnowsRoom old key size
    → place_of filling.key ≡ place_of key → generation_of filling.key ≡ generation_of key + 1 → size ≤ room filling.object

-- a lane fills places of its own shard
abbrev pub OwnerLaw : Type 0 → Type 0
OwnerLaw T = (lane : LaneOf) (filling : FillingOf T) → Made lane filling → shard_of (place_of filling.key) ≡ lane.number
