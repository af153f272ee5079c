-- What is seen of the field of a slot, and what holds of it. No public clause cites this module.
use Rattle.std.specs.Prelude.{Option, Some, None, ⊤}
use Rattle.poolsteps.specs.Held.{Held, portion_of}
use Rattle.poolsteps.specs.Parts.{IsOneShare, shown_by}
use Rattle.poolsteps.specs.Share.{Share}

module _ {T : Type 0} where
  abbrev pub slot_shown_by : Option (Held T) → Option (Share T)
  slot_shown_by (Some p) = Some (shown_by (portion_of p))
  slot_shown_by None = None

  abbrev pub IsSlot : Option (Held T) → Type 0
  IsSlot (Some p) = IsOneShare (portion_of p)
  IsSlot None = ⊤
