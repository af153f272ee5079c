-- What the acts of a lane make of its references, and what of its shares stays with it, by its view.
use Rattle.std.specs.Prelude.{◌≡◌, ◌==◌, ℕ, ◌+◌, ◌-◌, ◌<◌, List, [], ◌∷◌, ◌++◌, Some, None, if◌then◌else◌}
use mathlib.Core.List.{IsPrefix}
use Rattle.keybits.specs.declared.shape.Shape.{Shape}
use Rattle.keybits.specs.Keys.{place_of}
use Rattle.poolsteps.specs.Shares.{room_of}
use Rattle.seqpool.specs.declared.act.Act.{Act}
use Rattle.seqpool.specs.declared.act.Act.TheVariants.{Publish, Get, Release, Clear, Reclaim, Home, Collect}
use Rattle.seqpool.specs.Pool.{IsLegal}
use Rattle.seqpool.specs.Histories.{acts_of}
use Rattle.poolsteps.specs.declared.view.LaneRecord.{LaneRecord}
use Rattle.poolsteps.specs.declared.view.View.{View}
use Rattle.poolsteps.specs.Views.{the_lane}
use Rattle.poolsteps.specs.Told.{GoesOn, MayTouch, HasPlace, MayPublish, references_seen}

-- how many references to a key a lane has after its act, where it had so many
abbrev pub references_with : Act → ℕ → ℕ → ℕ
references_with (Publish lane k content with_ref) key n = if k == key then (if with_ref then 1 else 0) else n
references_with (Get lane k (Some content)) key n = if k == key then n + 1 else n
references_with (Get lane k None) key n = n
references_with (Release lane k) key n = if k == key then n - 1 else n
references_with (Clear lane k reply) key n = n
references_with (Reclaim lane k) key n = n
references_with (Home lane place) key n = n
references_with (Collect lane places) key n = n

-- and after these acts of it
abbrev pub references_made : List Act → ℕ → ℕ → ℕ
references_made [] key n = n
references_made (act ∷ more) key n = references_made more key (references_with act key n)

-- after acts of its own, and whatever other lanes did before them, a lane has the references that these acts leave it
abbrev pub ReferencesLaw : Type 0
ReferencesLaw = (z : Shape) (before after : View) (made : List Act) (rooms : List ℕ) (r : LaneRecord) → GoesOn z before after made rooms r
    → r.lane ≡ (the_lane before).lane → acts_of r.lane made ≡ made
    → (key : ℕ) → references_seen z after key ≡ references_made made key (references_seen z before key)

-- the same over any number of calls: a lane has the references that its own acts leave it, whatever other lanes did among them
abbrev pub ActsLaw : Type 0
ActsLaw = (z : Shape) (before after : View) (made : List Act) → IsPrefix before.seen after.seen → IsLegal z after.seen
    → (the_lane after).lane ≡ (the_lane before).lane
    → acts_of (the_lane before).lane after.seen ≡ acts_of (the_lane before).lane before.seen ++ made
    → (key : ℕ) → references_seen z after key ≡ references_made made key (references_seen z before key)

-- what a lane may have stays with it while others act, and so does the place's room
abbrev pub SharesLaw : Type 0
SharesLaw = (z : Shape) (before after : View) (r : LaneRecord) → GoesOn z before after [] [] r → r.lane ≡ (the_lane before).lane
    → (place number : ℕ) → MayTouch z before place number
    → MayTouch z after place number × (HasPlace z before place → HasPlace z after place)
    × (room_of after.seen after.rooms place ≡ room_of before.seen before.rooms place)

-- a lane with a reference may have its share
abbrev pub HeldLaw : Type 0
HeldLaw = (z : Shape) (v : View) (key : ℕ) → 0 < references_seen z v key → MayTouch z v (place_of key) (the_lane v).lane

-- a key that a lane may publish it still may after a look that leaves what it has under way and its chain, while others act
abbrev pub FillingLaw : Type 0
FillingLaw = (z : Shape) (before after : View) (r : LaneRecord) (key : ℕ) → GoesOn z before after [] [] r → r.lane ≡ (the_lane before).lane
    → r.under ≡ (the_lane before).under → r.chain ≡ (the_lane before).chain → MayPublish z before key → MayPublish z after key
