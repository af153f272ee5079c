-- Laws of guests, and of pools that have some, each as a client cites it.
use Rattle.std.specs.Prelude.{◌≡◌, ◌⊎◌, ℕ, ◌<◌, ◌≤◌, Bool, true, false, IsTrue, List, [], ◌∷◌, ◌++◌, Some, length, slice_get, if◌then◌else◌}
use mathlib.Core.List.{IsPrefix}
use Rattle.keybits.specs.declared.shape.Shape.{Shape}
use Rattle.seqpool.specs.declared.act.Act.{Act}
use Rattle.seqpool.specs.declared.act.Act.TheVariants as acts
use Rattle.seqpool.specs.Pool.{has, NoRepeats, IsLegal}
use Rattle.seqpool.specs.Histories.{At, acts_of}
use Rattle.poolsteps.specs.Views.{the_lane}
use Rattle.seatcalls.specs.Visitors.{GuestOf, IsFree, Visits}
use Rattle.seatcalls.specs.Endings.{Settles}
use Rattle.seatcalls.specs.Sightings.{Found, Missed, Cleared, HasPassed}
use Rattle.shardpool.specs.declared.census.Census.{Census}
use Rattle.shardpool.specs.Tokens.{PoolOf, LaneOf, GuestsOf}
use Rattle.shardpool.specs.Closings.{AreAllLanes, AreGuests, Closes, ClosesWithGuests}
use Rattle.poollaws.specs.Words.{IsPublished, IsCleared, IsGone}
use Rattle.poollaws.specs.Cleared.{cleared_in, cleared_by}
use Rattle.poollaws.specs.Counted.{CountsPresent}

-- the keys that the guest cleared
abbrev pub cleared_by_guest : GuestOf → List ℕ
cleared_by_guest guest = cleared_in (the_lane guest.book).mine

-- ---- what a guest has seen

-- what a guest has seen since goes on from what it had seen, and of the guest's acts it has those that the guest made since, each once and in their order
abbrev pub VisitedLaw : Type 0
VisitedLaw = (made : List Act) (steps looks : ℕ) (old new : GuestOf) → IsFree old → Visits made steps looks old new
    → (more : List Act) × (new.book.seen ≡ old.book.seen ++ more) × (acts_of old.number more ≡ made)

-- all that a guest had seen stands before its get that found the key, and has it published and not cleared; so whoever then has the reference may conclude it
abbrev pub FoundBehindLaw : Type 0
FoundBehindLaw = (key : ℕ) (old new : GuestOf) → IsPrefix old.book.seen new.book.seen → (found : Found key old new)
    → ((i : ℕ) (act : Act) → At old.book.seen i act → (i < found.get.position) × At new.book.seen i act)
    × IsPublished new.book.seen key found.content × (IsCleared old.book.seen key → ⊥)

-- ---- keys that are gone

-- a guest that finds nothing comes behind a clear of the key, if it saw the key published
abbrev pub GuestMissedLaw : Type 0
GuestMissedLaw = (key : ℕ) (old new : GuestOf) → IsPrefix old.book.seen new.book.seen → Missed key old new
    → IsGone old.book.seen new.book.seen key

-- a clear of a key that the guest has seen cleared marks nothing
abbrev pub GuestMarksOnceLaw : Type 0
GuestMarksOnceLaw = (key : ℕ) (old new : GuestOf) (marked : Bool) → IsPrefix old.book.seen new.book.seen → IsCleared old.book.seen key
    → (IsTrue marked → Cleared key old new) → marked ≡ false

-- where a key's place has gone on, what was published under the key is cleared
abbrev pub PassedGoneLaw : Type 0
PassedGoneLaw = (z : Shape) (history : List Act) (key : ℕ) → IsLegal z history → HasPassed z history key → IsGone history history key

-- a guest that has seen the key's place go on doesn't find the key any more
abbrev pub GuestPassedLaw : Type 0
GuestPassedLaw = (key : ℕ) (old new : GuestOf) → IsPrefix old.book.seen new.book.seen → IsLegal old.shape new.book.seen
    → HasPassed old.shape old.book.seen key → Found key old new → ⊥

-- ---- which keys guests cleared

-- acts that clear no key leave the keys that the guest cleared
abbrev pub GuestNoneClearedLaw : Type 0
GuestNoneClearedLaw = (made : List Act) (steps looks : ℕ) (old new : GuestOf) → Visits made steps looks old new → cleared_in made ≡ []
    → cleared_by_guest new ≡ cleared_by_guest old

-- a clear, with the return of a place that the guest claimed, clears its key where it answers true, and else none
abbrev pub GuestKeyClearedLaw : Type 0
GuestKeyClearedLaw = (key place steps looks : ℕ) (old new : GuestOf) (result : Bool)
    → Settles place (acts.Clear old.number key result ∷ []) steps looks old new
    → cleared_by_guest new ≡ cleared_by_guest old ++ (if result then key ∷ [] else [])

-- a guest clears no key twice
abbrev pub GuestClearedOnceLaw : Type 0
GuestClearedOnceLaw = (guest : GuestOf) → IsFree guest → NoRepeats (cleared_by_guest guest)

-- ---- the close of a pool with guests

-- its history has all that its guests have seen
abbrev pub GuestsLastLaw : Type 0
GuestsLastLaw = (pool : PoolOf) (lanes : List LaneOf) (undealt : GuestsOf) (dealt : List GuestOf) (census : Census)
    → (ends : ClosesWithGuests pool lanes undealt dealt census) → (index : ℕ) (guest : GuestOf) → slice_get dealt index ≡ Some guest
    → ((key : ℕ) (content : List ℕ) → IsPublished guest.book.seen key content → IsPublished ends.closes.history key content)
    × ((key : ℕ) → IsCleared guest.book.seen key → IsCleared ends.closes.history key)

-- a key that was published is cleared, or its place is counted as present; where none is counted as present, each is cleared
abbrev pub GuestsCountedLaw : Type 0
GuestsCountedLaw = (pool : PoolOf) (lanes : List LaneOf) (census : Census) → AreAllLanes pool lanes → (closes : Closes pool lanes census)
    → (key : ℕ) (content : List ℕ) → IsPublished closes.history key content
    → (IsCleared closes.history key ⊎ CountsPresent closes.census_is key) × (census.present ≡ 0 → IsCleared closes.history key)

-- each key that is cleared was cleared by one of its lanes, or by one of the guests that were dealt
abbrev pub GuestsClearerLaw : Type 0
GuestsClearerLaw = (pool : PoolOf) (lanes : List LaneOf) (undealt : GuestsOf) (dealt : List GuestOf) (census : Census)
    → AreAllLanes pool lanes → AreGuests pool undealt dealt → (ends : ClosesWithGuests pool lanes undealt dealt census)
    → (key : ℕ) → IsCleared ends.closes.history key
    → ((index : ℕ) × (lane : LaneOf) × (slice_get lanes index ≡ Some lane) × (has (cleared_by lane) key ≡ true))
    ⊎ ((index : ℕ) × (guest : GuestOf) × (slice_get dealt index ≡ Some guest) × (has (cleared_by_guest guest) key ≡ true))
