-- What views say: the records of a seat's lanes.
use Rattle.std.specs.Prelude.{◌≡◌, ◌⊎◌, ◌==◌, ◌&&◌, ℕ, ◌+◌, List, [], ◌∷◌, ◌++◌, Option, Some, None, if◌then◌else◌}
use mathlib.Core.Option.{some}
use lib.ListN.{get_elem?}
use Rattle.keybits.specs.Keys.{place_of}
use Rattle.seqpool.specs.declared.act.Act.{Act}
use Rattle.seqpool.specs.declared.act.Act.TheVariants as acts
use Rattle.seqpool.specs.Pool.{has}
use Rattle.poolsteps.specs.declared.view.Status.{Status}
use Rattle.poolsteps.specs.declared.view.Status.TheVariants.{Untouched}
use Rattle.poolsteps.specs.declared.view.Stored.{Stored}
use Rattle.poolsteps.specs.Shares.{first_status, at_rest, nothing_stored}
use Rattle.steplaws.specs.declared.pending.Pending.{Pending}
use Rattle.steplaws.specs.declared.pending.Pending.TheVariants.{Nothing}
use Rattle.poolsteps.specs.declared.view.Deed.{Deed}
use Rattle.poolsteps.specs.declared.view.Deed.TheVariants.{Left, Returned, Collected}
use Rattle.poolsteps.specs.declared.view.LaneRecord.{LaneRecord}
use Rattle.poolsteps.specs.declared.view.View.{View}

-- the record of a lane that has done nothing
abbrev pub first_record : ℕ → LaneRecord
first_record lane = record { lane = lane; mine = []; under = Nothing; pushed = []; chain = []; deeds = []; cells = [] }

-- the first of these records, if there is one
abbrev pub head_record : List LaneRecord → LaneRecord
head_record [] = first_record 0
head_record (r ∷ more) = r

-- the record of the lane of a seat that has one
abbrev pub the_lane : View → LaneRecord
the_lane v = head_record v.lanes

-- the seat is that of one lane
abbrev pub IsOne : View → Type 0
IsOne v = v.lanes ≡ the_lane v ∷ []

-- the word that was last pushed for a shard; 0 where none was
abbrev pub pushed_in : List (ℕ × ℕ) → ℕ → ℕ
pushed_in [] shard = 0
pushed_in (x ∷ more) shard = if shard == x.0 then x.1 else pushed_in more shard

-- how a lane that did this left the slot of a place and a lane
abbrev pub status_in : ℕ → List Deed → ℕ → ℕ → Status
status_in lane [] place number = first_status lane place number
status_in lane (Left at n status ∷ earlier) place number = if (place == at) && (number == n) then status
    else status_in lane earlier place number
status_in lane (Returned at ∷ earlier) place number = if place == at then Untouched else status_in lane earlier place number
status_in lane (Collected places ∷ earlier) place number = if has places place then at_rest place number
    else status_in lane earlier place number

-- the cell of a place, as it is known by these
abbrev pub known_in : List (ℕ × Stored) → ℕ → Stored
known_in [] place = nothing_stored
known_in (x ∷ earlier) place = if place == x.0 then x.1 else known_in earlier place

-- how the lane left a slot, and what it knows of a place's cell
abbrev pub status_of : LaneRecord → ℕ → ℕ → Status
status_of r place number = status_in r.lane r.deeds place number

abbrev pub known_of : LaneRecord → ℕ → Stored
known_of r place = known_in r.cells place

-- the record is among these
abbrev pub In : LaneRecord → List LaneRecord → Type 0
In r [] = ⊥
In r (x ∷ more) = (r ≡ x) ⊎ In r more

-- some seat has this record
abbrev pub HasRecord : List View → LaneRecord → Type 0
HasRecord views r = (seat : ℕ) × (v : View) × (get_elem? views seat ≡ some v) × In r v.lanes

-- how often a lane stands among these records
abbrev pub times_in : ℕ → List LaneRecord → ℕ
times_in lane [] = 0
times_in lane (r ∷ more) = (if r.lane == lane then 1 else 0) + times_in lane more

-- how often a lane stands among the records of all seats
abbrev pub times_among : ℕ → List View → ℕ
times_among lane [] = 0
times_among lane (v ∷ more) = times_in lane v.lanes + times_among lane more

-- the acts that a step made
abbrev pub acts_in : Option Act → List Act
acts_in None = []
acts_in (Some act) = act ∷ []

-- the number beside an act of a lane with this record: beside a publish the room of the cell, and 0 beside any other
abbrev pub room_beside : LaneRecord → Act → ℕ
room_beside r (acts.Publish lane key content with_ref) = (known_of r (place_of key)).room
room_beside r (acts.Get lane key reply) = 0
room_beside r (acts.Release lane key) = 0
room_beside r (acts.Clear lane key reply) = 0
room_beside r (acts.Reclaim lane key) = 0
room_beside r (acts.Home lane place) = 0
room_beside r (acts.Collect lane places) = 0

-- and beside the acts that a step made
abbrev pub rooms_in : LaneRecord → Option Act → List ℕ
rooms_in r None = []
rooms_in r (Some act) = room_beside r act ∷ []

-- the record after a step with this act or none, with this then under way
abbrev pub after_step : LaneRecord → Option Act → Pending → LaneRecord
after_step r act under = record r { mine = r.mine ++ acts_in act; under = under }

-- the lane knows this cell of the place
abbrev pub with_cell : LaneRecord → ℕ → Stored → LaneRecord
with_cell r place c = record r { cells = (place, c) ∷ r.cells }
