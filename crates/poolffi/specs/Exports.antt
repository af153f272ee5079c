-- What an export did with a slot.
use Rattle.std.specs.Prelude.{◌≡◌, ◌≢◌, ◌⊎◌, ℕ, List, [], ◌∷◌, ◌++◌, length, take, drop, min, All, Contains, slice_get, Option, Some, None, Result, Ok, Err, IfOk, Box}
use Rattle.std.specs.declared.alloc.Global.{Global}
use Rattle.poolhandle.specs.declared.shared.Shared.{Shared}
use Rattle.poolhandle.specs.declared.slot.Slot.{Slot}
use Rattle.poolhandle.specs.Opened.{IsOf, IsFirstHandle}
use Rattle.poolhandle.specs.declared.refusal.Refusal.{Refusal}
use Rattle.poolhandle.specs.declared.handle.Handle.{Handle}
use Rattle.poolhandle.specs.declared.refusal.Refusal.TheVariants.{NoReference}
use Rattle.shardpool.specs.Lanes.{holds}
use Rattle.poolhandle.specs.Calls.{lane_of, pool_of, numbers_of, Creates, Puts, Got, NotGot, AreLent, Joins, JoinsNot, ClosesNot}
use Rattle.shardpool.specs.Tokens.{LaneOf}
use Rattle.shardpool.specs.declared.census.Census.{Census}
use Rattle.shardpool.specs.Closings.{AreLanes, Closes}
use Rattle.keybits.specs.declared.shape.Shape.{Shape}
use Rattle.keybits.specs.declared.shape.ShapeFault.{ShapeFault}
use Rattle.keybits.specs.Shapes.{IsShape}
use Rattle.keybits.specs.ShapeFaults.{IsFirstWideFault}
use Rattle.poolffi.specs.declared.PoolShape.{PoolShape}
use Rattle.poolffi.specs.declared.PoolCensus.{PoolCensus}
use Rattle.poolffi.specs.Codes.{code_of, answer_code}

-- the counts as they are written
pub record AreCounts (counts : Census) (census : PoolCensus) : Type 0 where
  pub free : census.free ≡ counts.free
  pub unopened : census.unopened ≡ counts.unopened
  pub filling : census.filling ≡ counts.filling
  pub present : census.present ≡ counts.present
  pub marked : census.marked ≡ counts.marked
  pub retired : census.retired ≡ counts.retired

-- the slot has no lane
abbrev pub HasNoLane : List Handle → Type 0
HasNoLane items = (handle : Handle) → items ≡ handle ∷ [] → ⊥

-- it has one
abbrev pub HasLane : List Handle → Type 0
HasLane items = (handle : Handle) × (items ≡ handle ∷ [])

-- a slot without a lane answers 2 and stays as it was; else its lane made the call, whose answer the code tells
abbrev pub Calls : {A : Type 0} → (Handle → Handle → Result A Refusal → Type 0) → List Handle → List Handle → ℕ → Type 0
Calls {A} R old new code = (HasNoLane old × (code ≡ 2) × (new ≡ old))
    ⊎ ((before after : Handle) × (old ≡ before ∷ []) × (new ≡ after ∷ []) × (answer : Result A Refusal) × (code ≡ answer_code answer)
    × R before after answer)

-- what stands behind a pointer is as before, but where the code is 0
abbrev pub WritesAtOk : {X : Type 0} → ℕ → X → X → Type 0
WritesAtOk code old new = code ≢ 0 → new ≡ old

-- a create, whose key was written
abbrev pub CreatesKey : ℕ → Handle → Handle → Result ℕ Refusal → Type 0
CreatesKey key before after answer = Creates before after answer × IfOk answer (λ made. key ≡ made)

-- a put, whose key was written
abbrev pub PutsKey : List ℕ → ℕ → Handle → Handle → Result ℕ Refusal → Type 0
PutsKey bytes key before after answer = Puts bytes before after answer × IfOk answer (λ made. key ≡ made)

-- a get, with as many bytes lent as were written to be
abbrev pub Lends : ℕ → ℕ → Handle → Handle → Result (List ℕ) Refusal → Type 0
Lends key len before after (Ok bytes) = Got key before after × AreLent key after bytes × (len ≡ length bytes)
Lends key len before after (Err refusal) = NotGot key before after refusal

-- a read, with as many bytes lent as were written to be
abbrev pub Reads : ℕ → ℕ → Handle → Handle → Result (List ℕ) Refusal → Type 0
Reads key len before after (Ok bytes) = (after ≡ before) × AreLent key before bytes × (len ≡ length bytes)
Reads key len before after (Err refusal) = (refusal ≡ NoReference) × (after ≡ before) × (holds (lane_of before) key ≡ 0)

-- what is told stands over the first of these numbers, as far as there are so many, and the others are as before
abbrev pub written_over : List ℕ → List ℕ → List ℕ
written_over told old = let count : ℕ = min (length told) (length old) in take count told ++ drop count old

-- a lane told the numbers of its handle, and is as before
abbrev pub TellsNumbers : List ℕ → List ℕ → Handle → Handle → Result (Unit {0}) Refusal → Type 0
TellsNumbers old new before after (Ok done) = (after ≡ before) × (new ≡ written_over (numbers_of before) old)
TellsNumbers old new before after (Err refusal) = ⊥

-- a join of two slots: where one has no lane, 2, and both stay; else the other lane was given for the close, and its slot is empty; or all is as before, and the code tells why
abbrev pub JoinsSlots : List Handle → List Handle → List Handle → List Handle → ℕ → Type 0
JoinsSlots into other into_now other_now code = ((HasNoLane into ⊎ HasNoLane other) × (code ≡ 2) × (into_now ≡ into) × (other_now ≡ other))
    ⊎ ((before given after : Handle) × (into ≡ before ∷ []) × (other ≡ given ∷ []) × (into_now ≡ after ∷ [])
    × (((code ≡ 0) × Joins before given after × (other_now ≡ []))
    ⊎ ((refusal : Refusal) × (code ≡ code_of refusal) × JoinsNot before given refusal × (after ≡ before) × (other_now ≡ other))))

-- the slot has the handle again, or is empty
abbrev pub items_of : Option Handle → List Handle
items_of None = []
items_of (Some handle) = handle ∷ []

-- a close: where the slot has no lane, 2, and it stays; else the pool is closed with all its lanes, of which this is one, and these are its counts; or it isn't, and the code tells why
abbrev pub ClosesSlot : List Handle → List Handle → PoolCensus → ℕ → Type 0
ClosesSlot old new census code = (HasNoLane old × (code ≡ 2) × (new ≡ old))
    ⊎ ((handle : Handle) × (old ≡ handle ∷ [])
    × (((code ≡ 0) × (new ≡ []) × ((lanes : List LaneOf) × Contains lanes (lane_of handle) × AreLanes (pool_of handle) lanes
    × ((counts : Census) × Closes (pool_of handle) lanes counts × AreCounts counts census)))
    ⊎ ((refusal : Refusal) × (back : Option Handle) × (code ≡ code_of refusal) × (new ≡ items_of back) × ClosesNot handle back refusal)))

-- the shape that a foreign one is
abbrev pub shape_of : PoolShape → Shape
shape_of shape = record {
  lanes = shape.lanes;
  first_page = shape.first_page;
  pages = shape.pages;
  last_generation =
      shape.last_generation;
  tag = shape.tag;
  guests = 0;
}

-- some slot has a lane; none has one
abbrev pub AnyHasLane : List Slot → Type 0
AnyHasLane slots = (slot : Slot) × Contains slots slot × HasLane slot.items

abbrev pub NoneHasLane : List Slot → Type 0
NoneHasLane slots = All (λ slot. HasNoLane slot.items) slots

-- each slot has the handle of its index
abbrev pub AreLowered : List (Box Handle Global) → List Slot → Type 0
AreLowered handles slots = (index : ℕ) (slot : Slot) → slice_get slots index ≡ Some slot → (handle : Box Handle Global)
    × (slice_get handles index ≡ Some handle) × (slot.items ≡ handle.value ∷ [])

-- by rising number the slots have the lanes of one pool, of this shape and opened under this number
abbrev pub HaveOpened : Shape → ℕ → List Slot → Type 0
HaveOpened shape number slots = (shared : Shared) × IsOf shape number shared
    × ((index : ℕ) (slot : Slot) → slice_get slots index ≡ Some slot → (handle : Handle) × (slot.items ≡ handle ∷ [])
    × IsFirstHandle shared index handle)

-- an open of a shape into slots: 11 for another number of slots than it has lanes; 3 where one has a lane; 12 for a shape with a fault; 1, for want of memory, for one within its limits; and 0 for a shape without a fault, whose lanes the slots then have. At other codes they are as before
abbrev pub Opens : Shape → ℕ → List Slot → List Slot → ℕ → Type 0
Opens shape number old new code = ((code ≡ 11) × (length old ≢ shape.lanes) × (new ≡ old))
    ⊎ ((length old ≡ shape.lanes)
    × (((code ≡ 3) × AnyHasLane old × (new ≡ old))
    ⊎ (NoneHasLane old
    × (((code ≡ 12) × ((fault : ShapeFault) × IsFirstWideFault shape fault) × (new ≡ old))
    ⊎ (((code ≡ 1) × IsShape shape × (new ≡ old))
    ⊎ ((code ≡ 0) × ((fault : ShapeFault) → IsFirstWideFault shape fault → ⊥) × (length new ≡ length old)
    × HaveOpened shape number new))))))
