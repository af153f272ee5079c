-- Why an act is refused: the first that is wrong with it.
use Rattle.std.specs.Prelude.{◌≡◌, ◌≢◌, ◌⊎◌, ℕ, ◌<◌, ◌≤◌, true, false, [], Some, None}
use Rattle.keybits.specs.declared.shape.Shape.{Shape}
use Rattle.keybits.specs.Places.{shard_of}
use Rattle.keybits.specs.ShapeFaults.{shape_fault_number}
use Rattle.keybits.specs.Shapes.{is_place}
use Rattle.keybits.specs.Keys.{place_of, generation_of, is_key}
use Rattle.seqpool.specs.declared.act.Act.{Act}
use Rattle.seqpool.specs.declared.act.Act.TheVariants.{Publish, Get, Release, Clear, Reclaim, Home, Collect}
use Rattle.seqpool.specs.declared.acts_fault.ActsFault.{ActsFault}
use Rattle.seqpool.specs.declared.acts_fault.ActsFault.TheVariants as acts_faults
use Rattle.seqpool.specs.declared.fault.ApplyFault.{ApplyFault}
use Rattle.seqpool.specs.declared.fault.ApplyFault.TheVariants.{NotWithLane, WrongGeneration, WrongReply, NotHeld, StillHeld, NotMarked, NotHome, Memory}
use Rattle.seqpool.specs.Pool.{Pool, with, references_in, is_marked, is_current, found, clears, references, NoRepeats, AllHome, lane_of}

-- the number of a refusal
abbrev pub apply_fault_number : ApplyFault → ℕ
apply_fault_number NotWithLane = 11
apply_fault_number WrongGeneration = 12
apply_fault_number WrongReply = 13
apply_fault_number NotHeld = 14
apply_fault_number StillHeld = 15
apply_fault_number NotMarked = 16
apply_fault_number NotHome = 17
apply_fault_number Memory = 18

-- what is wrong with an act of a lane of the shape, where this refusal is the first that fits
abbrev pub Wrong : Shape → Pool → Act → ApplyFault → Type 0
Wrong z pool (Publish lane key content with_ref) NotWithLane = (is_key z key ≡ false) ⊎ ((pool (place_of key)).phase ≢ with lane)
Wrong z pool (Publish lane key content with_ref) WrongGeneration =
    (is_key z key ≡ true) × ((pool (place_of key)).phase ≡ with lane) × ((pool (place_of key)).generation ≢ generation_of key)
Wrong z pool (Get lane key reply) WrongReply = reply ≢ found z pool key
Wrong z pool (Release lane key) NotHeld = references z pool lane key ≡ 0
Wrong z pool (Clear lane key reply) WrongReply = reply ≢ clears z pool key
Wrong z pool (Reclaim lane key) NotMarked = (is_current z pool key ≡ false) ⊎ (is_marked (pool (place_of key)).phase ≡ false)
Wrong z pool (Reclaim lane key) StillHeld =
    (is_current z pool key ≡ true) × (is_marked (pool (place_of key)).phase ≡ true)
    × ((other : ℕ) × (0 < references_in (pool (place_of key)).phase other))
Wrong z pool (Home lane place) NotWithLane = ¬ ((is_place z place ≡ true) × ((pool place).phase ≡ with lane) × (shard_of place ≢ lane))
Wrong z pool (Collect lane places) NotHome = ¬ ((places ≢ []) × NoRepeats places × AllHome z pool lane places)
Wrong z pool act fault = ⊥

-- the refusal of an act, first of all where there is no such lane
abbrev pub Refused : Shape → Pool → Act → ApplyFault → Type 0
Refused z pool act fault = ((z.lanes ≤ lane_of act) × (fault ≡ NotWithLane)) ⊎ ((lane_of act < z.lanes) × Wrong z pool act fault)

-- the act needs memory for what it adds: the bytes or the reference of a Publish, or the reference of a Get that gives a content
abbrev pub Adds : Act → Type 0
Adds (Publish lane key content with_ref) = (content ≢ []) ⊎ (with_ref ≡ true)
Adds (Get lane key (Some content)) = Unit {0}
Adds (Get lane key None) = ⊥
Adds (Release lane key) = ⊥
Adds (Clear lane key reply) = ⊥
Adds (Reclaim lane key) = ⊥
Adds (Home lane place) = ⊥
Adds (Collect lane places) = ⊥

-- the number of a refusal of a text; a shape's fault keeps its own
abbrev pub acts_fault_number : ActsFault → ℕ
acts_fault_number acts_faults.ActsLine = 19
acts_fault_number (acts_faults.Shape fault) = shape_fault_number fault
acts_fault_number acts_faults.Memory = 18
