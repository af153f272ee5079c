-- How a write through the caller of a slot comes back.
use Rattle.std.specs.Prelude.{[], ◌∷◌, refl, Option}
use Rattle.std.specs.Borrow.{Lends, LendsIf, Fml, MutBor}
use Rattle.poolffi.specs.declared.caller.Caller.{Caller}
use Rattle.poolffi.specs.declared.pool_slot.PoolSlot.{PoolSlot}
use Rattle.poolffi.specs.contracts.caller.Caller as caller
use Rattle.poolffi.specs.contracts.pool_slot.PoolSlot as slot

-- the slot, full of this caller
abbrev pub with_caller : PoolSlot → Caller → PoolSlot
with_caller s c = record { at = s.at; full = 1; items = c ∷ []; counted = refl }

-- once the borrow `lent` ends, the slot has the caller that was left behind it
abbrev pub LendsCaller : MutBor PoolSlot → MutBor Caller → Fml
LendsCaller s lent = Lends slot.the_row caller.the_row s lent (with_caller s.now)

-- the same where there is one, and else the slot stays
abbrev pub LendsIfFull : MutBor PoolSlot → Option (MutBor Caller) → Fml
LendsIfFull s lent = LendsIf slot.the_row caller.the_row s lent (with_caller s.now) s.now
