-- The names of refusals.
use Rattle.std.specs.Prelude.{ℕ, List, codes}
use Rattle.keybits.specs.FaultNames.{shape_fault_name}
use Rattle.seqpool.specs.declared.acts_fault.ActsFault.{ActsFault}
use Rattle.seqpool.specs.declared.acts_fault.ActsFault.TheVariants as acts_faults
use Rattle.seqpool.specs.declared.fault.ApplyFault.{ApplyFault}
use Rattle.seqpool.specs.declared.fault.ApplyFault.TheVariants.{NotWithLane, WrongGeneration, WrongReply, NotHeld, StillHeld, NotMarked, NotHome, Memory}

-- the name of a refusal of an act
abbrev pub apply_fault_name : ApplyFault → List ℕ
apply_fault_name NotWithLane = codes "NotWithLane"
apply_fault_name WrongGeneration = codes "WrongGeneration"
apply_fault_name WrongReply = codes "WrongReply"
apply_fault_name NotHeld = codes "NotHeld"
apply_fault_name StillHeld = codes "StillHeld"
apply_fault_name NotMarked = codes "NotMarked"
apply_fault_name NotHome = codes "NotHome"
apply_fault_name Memory = codes "Memory"

-- the name of a refusal of a text; a shape's fault keeps its own
abbrev pub acts_fault_name : ActsFault → List ℕ
acts_fault_name acts_faults.ActsLine = codes "ActsLine"
acts_fault_name (acts_faults.Shape fault) = shape_fault_name fault
acts_fault_name acts_faults.Memory = codes "Memory"
