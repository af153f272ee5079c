-- Share: where the shares of each place's cell are, between any two steps.
use Rattle.poolsteps.specs.Spot.{Spot}
use Rattle.std.specs.Prelude.{◌≡◌, ◌≢◌, ◌==◌, ◌&&◌, ℕ, ◌<◌, ◌≤◌, Bool, true, false, List, [], ◌∷◌, Option, Some, None, if◌then◌else◌}
use mathlib.Core.Option as maybe
use Rattle.keybits.specs.declared.shape.Shape.{Shape}
use Rattle.keybits.specs.Places.{shard_of}
use Rattle.keybits.specs.Shapes.{callers, is_place}
use Rattle.keybits.specs.Keys.{place_of}
use Rattle.seqpool.specs.declared.act.Act.{Act}
use Rattle.seqpool.specs.declared.act.Act.TheVariants as acts
use Rattle.seqpool.specs.Pool.{Phase, with, published, home, retired, has, pool_after}
use Rattle.steplaws.specs.Facts.{put_at, is_home}
use Rattle.poolsteps.specs.Share.{Share}
use Rattle.poolsteps.specs.declared.view.Stored.{Stored}
use Rattle.poolsteps.specs.declared.view.Status.{Status}
use Rattle.poolsteps.specs.declared.view.Status.TheVariants.{Untouched, Emptied, Whole}

-- ---- what the history tells

-- who last reclaimed each place, after one act more
abbrev pub reclaimer_after : Act → (ℕ → ℕ) → ℕ → ℕ
reclaimer_after (acts.Publish lane key content with_ref) reclaimers = reclaimers
reclaimer_after (acts.Get lane key reply) reclaimers = reclaimers
reclaimer_after (acts.Release lane key) reclaimers = reclaimers
reclaimer_after (acts.Clear lane key reply) reclaimers = reclaimers
reclaimer_after (acts.Reclaim lane key) reclaimers = put_at reclaimers (place_of key) lane
reclaimer_after (acts.Home lane place) reclaimers = reclaimers
reclaimer_after (acts.Collect lane places) reclaimers = reclaimers

-- who last reclaimed each place, after these acts more
abbrev pub reclaimers_after : (ℕ → ℕ) → List Act → ℕ → ℕ
reclaimers_after reclaimers [] = reclaimers
reclaimers_after reclaimers (act ∷ more) = reclaimers_after (reclaimer_after act reclaimers) more

-- the lane that reclaimed the place last: the one that retired it, where it is retired
abbrev pub reclaimer : List Act → ℕ → ℕ
reclaimer history = reclaimers_after (λ _. 0) history

-- the rooms of places after an act, beside which this room is kept
abbrev pub room_after : Act → ℕ → (ℕ → ℕ) → ℕ → ℕ
room_after (acts.Publish lane key content with_ref) room rooms = put_at rooms (place_of key) room
room_after (acts.Get lane key reply) room rooms = rooms
room_after (acts.Release lane key) room rooms = rooms
room_after (acts.Clear lane key reply) room rooms = rooms
room_after (acts.Reclaim lane key) room rooms = rooms
room_after (acts.Home lane place) room rooms = rooms
room_after (acts.Collect lane places) room rooms = rooms

-- the rooms of places after these acts, with the rooms that are kept beside them
abbrev pub rooms_after : (ℕ → ℕ) → List Act → List ℕ → ℕ → ℕ
rooms_after rooms [] kept = rooms
rooms_after rooms (act ∷ more) [] = rooms
rooms_after rooms (act ∷ more) (room ∷ kept) = rooms_after (room_after act room rooms) more kept

-- the room of a place: that which its object had when it was last published, and 0 before
abbrev pub room_of : List Act → List ℕ → ℕ → ℕ
room_of history kept = rooms_after (λ _. 0) history kept

-- ---- who may have what

-- a lane may have in its hands the share of this number of a place of this phase, which this lane reclaimed last
abbrev pub MayHave : ℕ → ℕ → ℕ → Phase → Type 0
MayHave last lane number (with owner) = owner ≡ lane
MayHave last lane number (published content references mark) = (number ≡ lane) × (0 < references lane)
MayHave last lane number home = ⊥
MayHave last lane number retired = last ≡ lane

-- all shares of a place of this phase are with the lane
abbrev pub HasAll : ℕ → ℕ → Phase → Type 0
HasAll last lane (with owner) = owner ≡ lane
HasAll last lane (published content references mark) = ⊥
HasAll last lane home = ⊥
HasAll last lane retired = last ≡ lane

-- what is known of the cell of a place of this phase and room
abbrev pub IsKept : Stored → ℕ → Phase → Type 0
IsKept c room (with owner) = Unit {0}
IsKept c room (published content references mark) = (c.content ≡ content) × (c.room ≡ room)
IsKept c room home = (c.content ≡ []) × (room ≤ c.room)
IsKept c room retired = Unit {0}

-- ---- the slots

-- for each place and lane what its slot has: nothing while it is in a lane's hands, and else a share or none
abbrev pub Slots : Type 0 → Type 0
Slots T = ℕ → ℕ → maybe.Option (maybe.Option (Option (Share T)))

-- the slot is there, with this
abbrev pub at_home : {T : Type 0} → Option (Share T) → maybe.Option (maybe.Option (Option (Share T)))
at_home value = maybe.some (maybe.some value)

-- what the lanes did with slots, by lane, place and the slot's lane; the cell of each place; and what each lane knows of it
pub record Stock : Type 0 where
  pub status : ℕ → ℕ → ℕ → Status
  pub stored : ℕ → Stored
  pub knows : ℕ → ℕ → Stored

-- an object's content and room, as its type has them
module _ {T : Type 0} (content : T → List ℕ) (room : T → ℕ) (spots : ℕ → Spot) where
  -- it is the share of this number, of so many, of the cell
  pub record IsShareOf (place : ℕ) (c : Stored) (number of : ℕ) (share : Share T) : Type 0 where
    pub cell : share.cell ≡ c.cell
    pub number_is : share.number ≡ number
    pub of_is : share.of ≡ of
    pub content_is : content share.object ≡ c.content
    pub room_is : room share.object ≡ c.room
    pub spot_is : share.spot ≡ spots place

  -- the slot has the share of this number, of so many, of the cell
  abbrev pub HasShare : Slots T → ℕ → ℕ → Stored → ℕ → ℕ → Type 0
  HasShare slots place lane c number of = (share : Share T) × (slots place lane ≡ at_home (Some share)) × IsShareOf place c number of share

  -- the slot has none
  abbrev pub IsEmpty : Slots T → ℕ → ℕ → Type 0
  IsEmpty slots place lane = slots place lane ≡ at_home None

  -- of a resting place the slot of its shard's lane has the whole cell, and every other has none
  abbrev pub RestsAs : Slots T → ℕ → ℕ → Stored → Bool → Type 0
  RestsAs slots place lane c true = HasShare slots place lane c 0 1
  RestsAs slots place lane c false = IsEmpty slots place lane

  -- a slot that no lane touched: of a home place the whole cell is in the slot of its shard's lane; of every other place each lane's share is in its slot
  abbrev pub StandsAs : Shape → Slots T → ℕ → ℕ → Stored → Bool → Type 0
  StandsAs z slots place lane c true = RestsAs slots place lane c (lane == shard_of place)
  StandsAs z slots place lane c false = HasShare slots place lane c lane (callers z)

  -- Share
  pub record Shared (z : Shape) (history : List Act) (kept : List ℕ) (slots : Slots T) (q : Stock) : Type 0 where
    -- what stands in the slots
    pub untouched : (place lane : ℕ) → is_place z place ≡ true → lane < (callers z)
        → ((l : ℕ) → l < (callers z) → q.status l place lane ≡ Untouched)
        → StandsAs z slots place lane (q.stored place) (is_home (pool_after z history place).phase)
    pub emptied : (l place lane : ℕ) → l < (callers z) → is_place z place ≡ true → lane < (callers z) → q.status l place lane ≡ Emptied
        → IsEmpty slots place lane
    pub whole : (l place lane : ℕ) → l < (callers z) → is_place z place ≡ true → lane < (callers z) → q.status l place lane ≡ Whole
        → HasShare slots place lane (q.stored place) 0 1
    -- only a lane that may have a share touches its slot, and it knows the cell
    pub touched : (l place lane : ℕ) → l < (callers z) → lane < (callers z) → q.status l place lane ≢ Untouched
        → MayHave (reclaimer history place) l lane (pool_after z history place).phase × (q.knows l place ≡ q.stored place)
    -- a lane that has all shares knows the cell
    pub owned : (l place : ℕ) → l < (callers z) → HasAll (reclaimer history place) l (pool_after z history place).phase
        → q.knows l place ≡ q.stored place
    -- the cell has the content and the room of its key, or rests empty with at least its room
    pub contents : (place : ℕ) → IsKept (q.stored place) (room_of history kept place) (pool_after z history place).phase

-- ---- what acts and moves change

-- a slot of a lane's own shard is empty at first, and the places of the shard are with the lane
abbrev pub first_status : ℕ → ℕ → ℕ → Status
first_status lane place slot = if shard_of place == lane then Emptied else Untouched

-- no cell is known
abbrev pub nothing_stored : Stored
nothing_stored = record { cell = 0; content = []; room = 0 }

-- before the first step
abbrev pub first_stock : Stock
first_stock = record { status = first_status; stored = λ _. nothing_stored; knows = λ _ _. nothing_stored }

-- the lane left the slot of a place and lane so
abbrev pub with_status : (ℕ → ℕ → ℕ → Status) → ℕ → ℕ → ℕ → Status → ℕ → ℕ → ℕ → Status
with_status statuses lane place number status l p k = if (l == lane) && ((p == place) && (k == number)) then status else statuses l p k

-- the lane knows this of the place
abbrev pub with_known : (ℕ → ℕ → Stored) → ℕ → ℕ → Stored → ℕ → ℕ → Stored
with_known knows lane place c l p = if (l == lane) && (p == place) then c else knows l p

-- the lane moved the slot of a place and lane, and the place has this cell
abbrev pub moved : Stock → ℕ → ℕ → ℕ → Status → Stored → Stock
moved q lane place number status c = record {
  status = with_status q.status lane place number status;
  stored = put_at q.stored place c;
  knows = with_known q.knows lane place c;
}

-- the place has this cell, and the lane knows it
abbrev pub restocked : Stock → ℕ → ℕ → Stored → Stock
restocked q lane place c = record { status = q.status; stored = put_at q.stored place c; knows = with_known q.knows lane place c }

-- how a lane leaves the slots of a place at rest: the whole cell in the slot of the place's shard
abbrev pub at_rest : ℕ → ℕ → Status
at_rest place lane = if lane == shard_of place then Whole else Emptied

-- the lane returned the place: no slot of it is touched
abbrev pub after_home : Stock → ℕ → ℕ → Stock
after_home q lane place = record {
  status = λ l p k. if (l == lane) && (p == place) then Untouched else q.status l p k;
  stored = q.stored;
  knows = q.knows;
}

-- the lane collected places, which are at rest, and knows their cells
abbrev pub after_collect : Stock → ℕ → List ℕ → Stock
after_collect q lane places = record {
  status = λ l p k. if (l == lane) && has places p then at_rest p k else q.status l p k;
  stored = q.stored;
  knows = λ l p. if (l == lane) && has places p then q.stored p else q.knows l p;
}

-- the slots, but this in the one
abbrev pub with_slot : {T : Type 0} → Slots T → ℕ → ℕ → maybe.Option (maybe.Option (Option (Share T))) → Slots T
with_slot slots place lane value p k = if (p == place) && (k == lane) then value else slots p k
