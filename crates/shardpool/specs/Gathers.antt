-- What a lane does with places that guests returned to its shard: it gathers those of a row of bits, and each goes to its own list.
use Rattle.std.specs.Prelude.{◌≡◌, ◌≢◌, ◌==◌, if◌then◌else◌, ℕ, zero, suc, ◌+◌, ◌*◌, true, List, [], ◌∷◌, ◌++◌, map, length, Result}
use Rattle.keybits.specs.declared.shape.Shape.{Shape}
use Rattle.keybits.specs.Rows.{set_places}
use Rattle.seqpool.specs.declared.act.Act.{Act}
use Rattle.seqpool.specs.declared.act.Act.TheVariants as acts
use Rattle.seqpool.specs.Pool.{has}
use Rattle.steplaws.specs.Facts.{guest_home}
use Rattle.steplaws.specs.StepLaws.{row_of}
use Rattle.freelists.specs.Shards.{place_numbered}
use Rattle.poolsteps.specs.Views.{the_lane}
use Rattle.shardpool.specs.declared.create.CreateFault.{CreateFault}
use Rattle.shardpool.specs.Tokens.{PoolOf, LaneOf, FillingOf}
use Rattle.shardpool.specs.Marks.{rows_of_page}
use Rattle.shardpool.specs.AfterCalls.{KeepsFillings, AfterCreate}
use Rattle.shardpool.specs.Places.{IsResting}
use Rattle.shardpool.specs.Lanes.{holds, IsFilling, SameLane, SeesOn, Did}

-- the act by which a lane gathers the places of a row whose word this is; none where that is 0
abbrev pub gather_acts : ℕ → ℕ → ℕ → List Act
gather_acts lane row word = if word == 0 then [] else acts.Collect lane (set_places lane row word) ∷ []

-- a place that the lane gathered and has not listed yet: as a filling it is on no list, and it rests
pub record IsGathered (lane : LaneOf) (place : ℕ) : Type 0 where
  pub filling : IsFilling lane place
  pub rests : IsResting lane.shape lane.book place

-- the lane made these acts, and these places went to the end of its list; what else it has is as before
pub record Brings (made : List Act) (places : List ℕ) (old new : LaneOf) : Type 0 where
  pub goes : SeesOn made old new
  pub same : SameLane old new
  pub lane : (the_lane new.book).lane ≡ (the_lane old.book).lane
  pub mine : (the_lane new.book).mine ≡ (the_lane old.book).mine ++ made
  pub held : (key : ℕ) → holds new key ≡ holds old key
  pub list : new.free ≡ record old.free { own = old.free.own ++ map place_numbered places }
  pub pages : new.pages ≡ old.pages

-- among these places is each of the row of which the lane had seen that a guest returned it
abbrev pub HasGiven : LaneOf → ℕ → List ℕ → Type 0
HasGiven lane row places = (place : ℕ) → guest_home lane.shape lane.book.seen lane.number place ≡ true → row_of place ≡ row
    → has places place ≡ true

-- GATHER of a row, whose word this was: its places are with the lane
pub record GathersRow (row word : ℕ) (old new : LaneOf) : Type 0 where
  pub brings : Brings (gather_acts old.number row word) [] old new
  pub gathered : (place : ℕ) → has (set_places old.number row word) place ≡ true → IsGathered new place
  pub given : HasGiven old row (set_places old.number row word)
  pub steps : new.book.steps ≡ old.book.steps + 1
  pub looks : new.book.looks ≡ old.book.looks

-- a gathered place went to the end of the lane's list, and each other stays gathered
pub record ListsGathered (place : ℕ) (old new : LaneOf) : Type 0 where
  pub brings : Brings [] (place ∷ []) old new
  pub others : (other : ℕ) → (other ≡ place → ⊥) → IsGathered old other → IsGathered new other
  pub steps : new.book.steps ≡ old.book.steps
  pub looks : new.book.looks ≡ old.book.looks + 2

-- a gather of a row brought so many places: all those whose bits were set in the row's word
pub record AfterGather (row : ℕ) (old new : LaneOf) (count : ℕ) : Type 0 where
  pub word : ℕ
  pub counts : length (set_places old.number row word) ≡ count
  pub given : HasGiven old row (set_places old.number row word)
  pub brings : Brings (gather_acts old.number row word) (set_places old.number row word) old new
  pub steps : new.book.steps ≡ old.book.steps + 1
  pub looks : new.book.looks ≡ old.book.looks + 2 * count

-- ---- a place that is taken back

-- the lane took back a place that a guest claimed at this generation: it heard of the guest's return, and gathered the row; where the place
-- isn't retired, it is one of those that went to the lane's list
pub record AfterTakeBack (place generation : ℕ) (old new : LaneOf) : Type 0 where
  pub between : LaneOf
  pub hears : Did [] old between
  pub steps : between.book.steps ≡ old.book.steps
  pub looks : between.book.looks ≡ old.book.looks + 2
  pub count : ℕ
  pub gathers : AfterGather (row_of place) between new count
  pub listed : generation ≢ old.shape.last_generation → has (set_places old.number (row_of place) gathers.word) place ≡ true

-- ---- a create that gathers

-- the lane gathered these rows, one after another
abbrev pub GathersAll : List ℕ → LaneOf → LaneOf → Type 0
GathersAll [] old new = new ≡ old
GathersAll (row ∷ more) old new = (count : ℕ) × (between : LaneOf) × AfterGather row old between count × GathersAll more between new

-- so many rows from this one on
abbrev pub rows_from : ℕ → ℕ → List ℕ
rows_from first zero = []
rows_from first (suc rows) = rows_from first rows ++ (first + rows) ∷ []

-- the rows of so many pages
abbrev pub rows_of_pages : Shape → ℕ → List ℕ
rows_of_pages z zero = []
rows_of_pages z (suc pages) = rows_of_pages z pages ++ rows_from (64 * pages) (rows_of_page z pages)

-- rows of opened pages were gathered until the lane's list had a place: all of them, where it has none
pub record GathersUntil (old new : LaneOf) : Type 0 where
  pub rows : List ℕ
  pub gathers : GathersAll rows old new
  pub listed : old.free.own ≢ [] → rows ≡ []
  pub all : new.free.own ≡ [] → rows ≡ rows_of_pages old.shape old.pages.opened
  pub same : SameLane old new × (new.pages ≡ old.pages)

-- after a create that gathers, with this answer: rows were gathered, and it is as after a create from there
pub record AfterGatheringCreate {T : Type 0} (content : T → List ℕ) (size : T → ℕ) (pool : PoolOf) (old new : LaneOf)
    (result : Result (FillingOf T) CreateFault) : Type 0 where
  pub between : LaneOf
  pub gathers : GathersUntil old between
  pub fillings : KeepsFillings T old between
  pub creates : AfterCreate content size pool between new result
