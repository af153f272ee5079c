-- How seats are cut and joined.
use Rattle.std.specs.Prelude.{◌≡◌, ◌+◌, List, [], ◌∷◌, ◌++◌, length, nat_lt, if◌then◌else◌}
use mathlib.Core.List.{IsPrefix}
use Rattle.poolsteps.specs.declared.view.LaneRecord.{LaneRecord}
use Rattle.poolsteps.specs.declared.view.Heard.{Heard}
use Rattle.poolsteps.specs.declared.view.View.{View}

-- the first of these records
abbrev pub first_of : List LaneRecord → List LaneRecord
first_of [] = []
first_of (r ∷ more) = r ∷ []

-- these records without the first
abbrev pub others_of : List LaneRecord → List LaneRecord
others_of [] = []
others_of (r ∷ more) = more

-- a seat, but its first lane
abbrev pub without_first : View → View
without_first v = record v { lanes = others_of v.lanes }

-- the first lane of a seat
abbrev pub first_alone : View → View
first_alone v = record { lanes = first_of v.lanes; seen = v.seen; rooms = v.rooms; told = []; steps = 0; looks = 0 }

-- a note: what was seen, and no lane
abbrev pub note_of : View → View
note_of v = record { lanes = []; seen = v.seen; rooms = v.rooms; told = []; steps = 0; looks = 0 }

-- a seat that made one look more
abbrev pub looked_once : View → View
looked_once v = record v { looks = v.looks + 1 }

-- what a seat saw, with the rooms beside it
abbrev pub heard_of : View → Heard
heard_of v = record { seen = v.seen; rooms = v.rooms }

-- a seat that is told what another saw
abbrev pub told_by : View → View → View
told_by v w = record v { told = heard_of w ∷ v.told }

-- the longer of two lists
abbrev pub longer : {A : Type 0} → List A → List A → List A
longer xs ys = if nat_lt (length xs) (length ys) then ys else xs

-- what a seat saw begins with this history, and the rooms with those beside it, of which each act has one
pub record HasHeard (v : View) (heard : Heard) : Type 0 where
  pub acts : IsPrefix heard.seen v.seen
  pub rooms : IsPrefix heard.rooms v.rooms
  pub paired : length heard.rooms ≡ length heard.seen

-- what a seat then saw is the longer of what it saw before and of this history, and so are the rooms
abbrev pub SawLonger : View → Heard → View → Type 0
SawLonger before heard after = (after.seen ≡ longer before.seen heard.seen) × (after.rooms ≡ longer before.rooms heard.rooms)

-- the lanes of two seats at one; it is told what both saw
abbrev pub both_of : View → View → View
both_of v w = record v {
  lanes = v.lanes ++ w.lanes;
  seen = longer v.seen w.seen;
  rooms = longer v.rooms w.rooms;
  told = heard_of v
      ∷ heard_of w ∷ v.told ++ w.told;
}

-- a seat that was joined to another
abbrev pub spent : View
spent = record { lanes = []; seen = []; rooms = []; told = []; steps = 0; looks = 0 }
