-- How a write through the handle of a slot comes back.
use Rattle.std.specs.Prelude.{[], ◌∷◌, refl, Option}
use Rattle.std.specs.Borrow.{Lends, LendsIf, Fml, MutBor}
use Rattle.poolhandle.specs.declared.handle.Handle.{Handle}
use Rattle.poolhandle.specs.declared.slot.Slot.{Slot}
use Rattle.poolhandle.specs.contracts.handle.Handle as handle
use Rattle.poolhandle.specs.contracts.slot.Slot as slot

-- the slot, full of this handle
abbrev pub with_handle : Slot → Handle → Slot
with_handle s h = record { at = s.at; full = 1; items = h ∷ []; counted = refl }

-- once the borrow `lent` ends, the slot has the handle that was left behind it
abbrev pub LendsHandle : MutBor Slot → MutBor Handle → Fml
LendsHandle s lent = Lends slot.the_row handle.the_row s lent (with_handle s.now)

-- the same where there is one, and else the slot stays
abbrev pub LendsIfFull : MutBor Slot → Option (MutBor Handle) → Fml
LendsIfFull s lent = LendsIf slot.the_row handle.the_row s lent (with_handle s.now) s.now
