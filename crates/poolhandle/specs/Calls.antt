-- What the calls of a handle answer, what each does, and what each leaves alone.
use Rattle.std.specs.Prelude.{◌≡◌, ◌≢◌, ◌==◌, ◌⊎◌, ℕ, ◌+◌, ◌-◌, ◌<◌, ◌≤◌, Bool, true, false, List, [], ◌∷◌, ◌++◌, length, take, replicate, Contains, Result, Option, Ok, Err, Some, None, if◌then◌else◌}
use Rattle.std.specs.Arc.{arc_value}
use Rattle.keybits.specs.declared.shape.Shape.{Shape}
use Rattle.keybits.specs.declared.shape.TheConstants.{MOST_LANES}
use Rattle.seqpool.specs.Histories.{PublishedAt}
use Rattle.steplaws.specs.Facts.{most_references}
use Rattle.slotcell.specs.ByteBuf.{ByteBuf}
use Rattle.shardpool.specs.Tokens.{PoolOf, LaneOf, FillingOf}
use Rattle.shardpool.specs.Lanes.{SameLane, holds, refs}
use Rattle.shardpool.specs.Creates.{Gives, GivesNone}
use Rattle.poolhandle.specs.declared.refusal.Refusal.{Refusal}
use Rattle.poolhandle.specs.declared.refusal.Refusal.TheVariants.{Memory, Full, Fillings, NoFilling, NoReference, Gone, References, OtherPool, Lanes, Room, Shared}
use Rattle.poolhandle.specs.declared.kept.Kept.{Kept}
use Rattle.poolhandle.specs.declared.handle.Handle.{Handle}
use Rattle.poolhandle.specs.declared.fillings.TheConstants.{MOST_FILLINGS}
use Rattle.poolhandle.specs.Filled.{HaveNot, MustGrow, StayAll, Gain, Turn, Lose, content_of, room_of}
use Rattle.poolhandle.specs.LaneCalls.{LanePublishes, LaneGets, LaneMisses, LaneReleases, LaneClears, LaneClearsNone}

-- the lane of a handle
abbrev pub lane_of : Handle → LaneOf
lane_of handle = handle.lane.value

-- the pool of a handle
abbrev pub pool_of : Handle → PoolOf
pool_of handle = (arc_value handle.shared).pool

-- the places that it fills
abbrev pub filled : Handle → List Kept
filled handle = handle.fillings.list.items

-- what a handle tells: the shape of its pool, the number of its lane, how many references and fillings that has, and how many lanes were joined to it
abbrev pub numbers_of : Handle → List ℕ
numbers_of handle = let shape : Shape = (pool_of handle).shape in
    shape.lanes ∷ shape.first_page ∷ shape.pages ∷ shape.last_generation ∷ shape.tag ∷ (lane_of handle).number
    ∷ refs (lane_of handle) ∷ length (filled handle) ∷ handle.joined ∷ []

-- ---- what stays

-- so many references as before; to one key one more; and to one key one less
abbrev pub as_many : ℕ → ℕ → ℕ
as_many key count = count

abbrev pub one_more : ℕ → ℕ → ℕ → ℕ
one_more here key count = if here == key then count + 1 else count

abbrev pub one_less : ℕ → ℕ → ℕ → ℕ
one_less here key count = if here == key then count - 1 else count

-- all else is as before: this happened to the fillings, and this to the references to each key; and it is the same lane, with the same share of the
-- pool, as many lanes joined to it and the row for them
pub record KeepsElse (fillings : List Kept → List Kept → Type 0) (references : ℕ → ℕ → ℕ) (before after : Handle) : Type 0 where
  pub fillings_so : fillings (filled before) (filled after)
  pub references_so : (key : ℕ) → holds (lane_of after) key ≡ references key (holds (lane_of before) key)
  pub lane : SameLane (lane_of before) (lane_of after)
  pub share : after.shared ≡ before.shared
  pub joined : after.joined ≡ before.joined
  pub row : after.row ≡ before.row

-- nothing happened to the fillings and the references
abbrev pub Stays : Handle → Handle → Type 0
Stays before after = KeepsElse StayAll as_many before after

-- and nothing to the lane either
abbrev pub StaysWhole : Handle → Handle → Type 0
StaysWhole before after = (lane_of after ≡ lane_of before) × Stays before after

-- it has no filling under this key, and is as before
abbrev pub HasNone : ℕ → Handle → Handle → Type 0
HasNone key before after = HaveNot key (filled before) × (after ≡ before)

-- its lane has as many references as a lane can, and it is as before
abbrev pub HasMost : Handle → Handle → Type 0
HasMost before after = (most_references ≤ refs (lane_of before)) × (after ≡ before)

-- ---- the calls

-- the filling under this key has other bytes, by this relation; the lane is as before
abbrev pub Turns : ℕ → (Kept → Kept → Type 0) → Handle → Handle → Type 0
Turns key R before after = (lane_of after ≡ lane_of before) × KeepsElse (Turn key R) as_many before after

-- no place was had, for this reason: all pages are opened and nothing is free, or memory was refused for a page
abbrev pub CreatesNone : Handle → Handle → Refusal → Type 0
CreatesNone before after refusal = (((refusal ≡ Full) × ((lane_of before).pages.opened ≡ (lane_of before).shape.pages))
    ⊎ ((refusal ≡ Memory) × ((lane_of before).pages.opened < (lane_of before).shape.pages))) × GivesNone (lane_of before) (lane_of after)
    × Stays before after

-- a create: the answer is the key of a new filling, which is empty
abbrev pub Creates : Handle → Handle → Result ℕ Refusal → Type 0
Creates before after (Ok key) = (filling : FillingOf ByteBuf) × (filling.key ≡ key)
    × Gives (λ b. b.bytes) (λ b. b.room) (lane_of before) (lane_of after) filling
    × KeepsElse (Gain filling) as_many before after
Creates before after (Err refusal) = ((refusal ≡ Fillings) × (MOST_FILLINGS ≤ length (filled before)) × (after ≡ before))
    ⊎ CreatesNone before after refusal

-- its content is as before, and it has no room more
abbrev pub EndsRoom : Kept → Kept → Type 0
EndsRoom was now = (content_of now ≡ content_of was) × (room_of now ≡ [])

-- an append: these bytes stand behind the content; or memory was refused of which there was need, and the content is as before
abbrev pub Appends : ℕ → List ℕ → Handle → Handle → Result (Unit {0}) Refusal → Type 0
Appends key bytes before after (Ok done) = Turns key (λ was now. (content_of now ≡ content_of was ++ bytes)
    × (room_of now ≡ [])) before after
Appends key bytes before after (Err refusal) = ((refusal ≡ NoFilling) × HasNone key before after)
    ⊎ ((refusal ≡ Memory) × Turns key (λ was now. MustGrow was (length bytes) × EndsRoom was now) before after)

-- room: so many zeros stand behind the content, which is as before; or memory was refused of which there was need
abbrev pub Rooms : ℕ → ℕ → Handle → Handle → Result (Unit {0}) Refusal → Type 0
Rooms key count before after (Ok done) = Turns key (λ was now. (content_of now ≡ content_of was)
    × (room_of now ≡ replicate count 0)) before after
Rooms key count before after (Err refusal) = ((refusal ≡ NoFilling) × HasNone key before after)
    ⊎ ((refusal ≡ Memory) × Turns key (λ was now. MustGrow was count × EndsRoom was now) before after)

-- the room was written: the first bytes of it, so many, are content, and the others are gone
abbrev pub Wrote : ℕ → ℕ → Handle → Handle → Result (Unit {0}) Refusal → Type 0
Wrote key count before after (Ok done) =
    Turns key (λ was now. (count ≤ length (room_of was)) × (content_of now ≡ content_of was ++ take count (room_of was))
    × (room_of now ≡ [])) before after
Wrote key count before after (Err refusal) = ((refusal ≡ NoFilling) × HasNone key before after)
    ⊎ ((refusal ≡ Room) × ((kept : Kept) × Contains (filled before) kept × (kept.filling.key ≡ key) × (length (room_of kept) < count))
    × StaysWhole before after)

-- the content of the filling under this key is published, with a reference of the lane or without one; the filling is gone, and the place keeps its memory
abbrev pub Published : ℕ → Bool → (ℕ → ℕ → ℕ) → Handle → Handle → Type 0
Published key with_ref references before after = (kept : Kept)
    × LanePublishes key (content_of kept) with_ref kept.filling.object.room (lane_of before) (lane_of after)
    × KeepsElse (Lose key kept) references before after

abbrev pub Publishes : ℕ → Handle → Handle → Result (Unit {0}) Refusal → Type 0
Publishes key before after (Ok done) = Published key false as_many before after
Publishes key before after (Err refusal) = (refusal ≡ NoFilling) × HasNone key before after

abbrev pub Downgrades : ℕ → Handle → Handle → Result (Unit {0}) Refusal → Type 0
Downgrades key before after (Ok done) = Published key true (one_more key) before after
Downgrades key before after (Err refusal) = ((refusal ≡ NoFilling) × HasNone key before after)
    ⊎ ((refusal ≡ References) × HasMost before after)

-- a filling ended unpublished; the lane is as before
abbrev pub Leaves : ℕ → Handle → Handle → Result (Unit {0}) Refusal → Type 0
Leaves key before after (Ok done) = (lane_of after ≡ lane_of before) × ((kept : Kept) × KeepsElse (Lose key kept) as_many before after)
Leaves key before after (Err refusal) = (refusal ≡ NoFilling) × HasNone key before after

-- a filling was published with this content and cleared, so that its place can be had again: its key is found no more
abbrev pub GivesUp : ℕ → List ℕ → ℕ → LaneOf → LaneOf → Type 0
GivesUp key content room before after = (middle : LaneOf) × LanePublishes key content false room before middle
    × (LaneClears key middle after ⊎ LaneClearsNone key middle after)

-- a create, an append and a publish in one: the answer is the key under which these bytes are published; or no place was had; or memory was refused for
-- the bytes, of which there was need, and the place was given up
abbrev pub Puts : List ℕ → Handle → Handle → Result ℕ Refusal → Type 0
Puts bytes before after (Ok key) = (middle : LaneOf) × (filling : FillingOf ByteBuf) × (filling.key ≡ key)
    × Gives (λ b. b.bytes) (λ b. b.room) (lane_of before) middle filling
    × ((room : ℕ) × (filling.object.room ≤ room) × LanePublishes key bytes false room middle (lane_of after)) × Stays before after
Puts bytes before after (Err refusal) = CreatesNone before after refusal ⊎ ((refusal ≡ Memory)
    × ((middle : LaneOf) × (filling : FillingOf ByteBuf) × Gives (λ b. b.bytes) (λ b. b.room) (lane_of before) middle filling
    × (filling.object.room < length bytes) × GivesUp filling.key [] filling.object.room middle (lane_of after)) × Stays before after)

-- a get: one reference more; else the key wasn't found, or the lane has as many references as it can
abbrev pub Got : ℕ → Handle → Handle → Type 0
Got key before after = LaneGets key (lane_of before) (lane_of after) × (1 ≤ holds (lane_of after) key)
    × KeepsElse StayAll (one_more key) before after

abbrev pub NotGot : ℕ → Handle → Handle → Refusal → Type 0
NotGot key before after refusal = ((refusal ≡ Gone) × LaneMisses key (lane_of before) (lane_of after) × Stays before after)
    ⊎ ((refusal ≡ References) × HasMost before after)

-- these are the bytes with which the key was published, to which the lane has a reference
abbrev pub AreLent : ℕ → Handle → List ℕ → Type 0
AreLent key handle bytes = (1 ≤ holds (lane_of handle) key) × ((j : ℕ) × PublishedAt (lane_of handle).book.seen j key bytes)

-- a release: one reference less
abbrev pub Releases : ℕ → Handle → Handle → Result (Unit {0}) Refusal → Type 0
Releases key before after (Ok done) = (1 ≤ holds (lane_of before) key) × LaneReleases key (lane_of before) (lane_of after)
    × KeepsElse StayAll (one_less key) before after
Releases key before after (Err refusal) = (refusal ≡ NoReference) × (holds (lane_of before) key ≡ 0) × StaysWhole before after

-- a clear: this call marked the key; else it wasn't found
abbrev pub Clears : ℕ → Handle → Handle → Result (Unit {0}) Refusal → Type 0
Clears key before after (Ok done) = LaneClears key (lane_of before) (lane_of after) × Stays before after
Clears key before after (Err refusal) = (refusal ≡ Gone) × LaneClearsNone key (lane_of before) (lane_of after) × Stays before after

-- the lane of another handle comes next at a join: of lane 0's handle, from the last lane on
pub record IsNext (into other : Handle) : Type 0 where
  pub first : (lane_of into).number ≡ 0
  pub later : 1 ≤ (lane_of other).number
  pub single : other.joined ≡ 0
  pub few : into.joined < MOST_LANES
  pub next : (lane_of other).number + into.joined + 1 ≡ (pool_of into).shape.lanes

-- the number under which its pool was opened
abbrev pub pool_number : Handle → ℕ
pool_number handle = (arc_value handle.shared).number

-- a join: the other lane was the next one, of a pool of the same number, and is given for the close; one more is joined, and all else is as before
abbrev pub Joins : Handle → Handle → Handle → Type 0
Joins before other after = IsNext before other × (pool_number other ≡ pool_number before)
    × (after ≡ record before { joined = before.joined + 1 })

-- no join, for this reason: another lane comes next, or the other is of another pool, which was opened under another number
abbrev pub JoinsNot : Handle → Handle → Refusal → Type 0
JoinsNot before other refusal = ((refusal ≡ Lanes) × (IsNext before other → ⊥))
    ⊎ ((refusal ≡ OtherPool) × IsNext before other × (pool_number other ≢ pool_number before))

-- all other lanes were joined
abbrev pub AllJoined : Handle → Type 0
AllJoined handle = handle.joined + 1 ≡ (pool_of handle).shape.lanes

-- no close, for this reason: lanes weren't joined, and the handle is as before; or they were, and the pool is still shared, which doesn't happen
abbrev pub ClosesNot : Handle → Option Handle → Refusal → Type 0
ClosesNot handle back refusal = ((refusal ≡ Lanes) × (AllJoined handle → ⊥) × (back ≡ Some handle))
    ⊎ ((refusal ≡ Shared) × AllJoined handle × ((back ≡ Some handle) ⊎ (back ≡ None)))
