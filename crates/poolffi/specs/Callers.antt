-- What a call does to what its caller has.
use Rattle.std.specs.Prelude.{◌≡◌, ◌⊎◌, ℕ, ◌≤◌, List, Contains, Option, Some, None, Result, Ok, Err}
use Rattle.std.specs.Arc.{arc_value}
use mathlib.Core.List.{IsPrefix}
use Rattle.shardpool.specs.Tokens.{PoolOf, LaneOf}
use Rattle.shardpool.specs.Closings.{AreLanes, Closes}
use Rattle.shardpool.specs.declared.census.Census.{Census}
use Rattle.lanestore.specs.Shared as shared
use Rattle.lanestore.specs.Visits.{Tells}
use Rattle.poolffi.specs.declared.caller.Caller.{Caller}
use Rattle.poolffi.specs.declared.found.Found.{Found}
use Rattle.poolffi.specs.declared.refusal.Refusal.{Refusal}
use Rattle.poolffi.specs.declared.refusal.Refusal.TheVariants.{Busy, Memory, NoReference, Shared}
use Rattle.poolffi.specs.ByteCalls as lanes

-- the pool of which a caller has a share
abbrev pub pool_of : Caller → PoolOf
pool_of caller = (arc_value caller.store).pool

-- a lane of the pool, which had seen all that the caller was told, made this call, and the caller's new note has all that the lane has then seen; his share is
-- the same, and so is his row
abbrev pub ByLane : Caller → Caller → (LaneOf → LaneOf → Type 0) → Type 0
ByLane before after call = (after.store ≡ before.store) × (after.row ≡ before.row)
    × shared.ByLane (pool_of before) before.note after.note call

-- no call was made, since other calls have all lanes that could serve it, and all is as before
abbrev pub IsBusy : Caller → Caller → Refusal → Type 0
IsBusy before after refusal = (refusal ≡ Busy) × (after ≡ before)

-- a call by any lane; or it was busy
abbrev pub ByAny : {A : Type 0} → (LaneOf → LaneOf → Result A Refusal → Type 0) → Caller → Caller → Result A Refusal → Type 0
ByAny call before after (Ok answer) = ByLane before after (λ old new. call old new (Ok answer))
ByAny call before after (Err refusal) = IsBusy before after refusal ⊎ ByLane before after (λ old new. call old new (Err refusal))

abbrev pub Puts : List ℕ → Caller → Caller → Result ℕ Refusal → Type 0
Puts bytes before after answer = ByAny (lanes.Puts (pool_of before) bytes) before after answer

abbrev pub Gets : ℕ → Caller → Caller → Result Found Refusal → Type 0
Gets key before after answer = ByAny (lanes.Gets (pool_of before) key) before after answer

abbrev pub Clears : ℕ → Caller → Caller → Result (Unit {0}) Refusal → Type 0
Clears key before after answer = ByAny (lanes.Clears (pool_of before) key) before after answer

-- a release by the lane of this number; a pool without such a lane has no reference there
abbrev pub Releases : ℕ → ℕ → Caller → Caller → Result (Unit {0}) Refusal → Type 0
Releases lane key before after answer = ByAny (λ old new reply. (old.number ≡ lane) × lanes.Releases (pool_of before) key old new reply)
    before after answer
    ⊎ ((answer ≡ Err NoReference) × ((pool_of before).shape.lanes ≤ lane) × (after ≡ before))

-- another caller has a share of the same store, and was told all that this one was; or there was none, and he is as before but for what he was told
abbrev pub Shares : Caller → Caller → Result Caller Refusal → Type 0
Shares before after (Ok other) = (arc_value other.store ≡ arc_value before.store)
    × ByLane before after (λ old new. Tells (pool_of before) old new other.note)
Shares before after (Err refusal) = IsBusy before after refusal ⊎ ((refusal ≡ Memory) × (after.store ≡ before.store)
    × (after.row ≡ before.row) × IsPrefix before.note.book.seen after.note.book.seen)

-- the pool was closed with all its lanes, of which one had seen all that the caller was told; these are its counts
abbrev pub ClosesPool : Caller → Census → Type 0
ClosesPool caller counts = (lanes : List LaneOf) × AreLanes (pool_of caller) lanes × Closes (pool_of caller) lanes counts
    × ((lane : LaneOf) × Contains lanes lane × IsPrefix caller.note.book.seen lane.book.seen)

-- no close: others have a share of the store too, and he is as before; or that was seen late, or a lane was missing, which doesn't happen: he has nothing then
abbrev pub ClosesNot : Caller → Option Caller → Refusal → Type 0
ClosesNot caller back refusal = (refusal ≡ Shared) × ((back ≡ Some caller) ⊎ (back ≡ None))
