-- Slots with a pool and without.
use Rattle.std.proofs.Common.{◌≡◌, ◌==◌, true, false, length, sym, ap, ◌∙◌, eqb-true, eq-eqb}
use Rattle.poolffi.specs.declared.pool_slot.PoolSlot.{PoolSlot}
use Rattle.poolffi.specs.Attached.{HasPool, HasNoPool}
use Rattle.poolffi.proofs.Emptiness.{one-of}

pub full-has : (slot : PoolSlot) → (slot.full == 1) ≡ true → HasPool slot.items
full-has slot full = one-of slot.items slot.full slot.counted (eqb-true slot.full 1 full)

pub empty-has-not : (slot : PoolSlot) → (slot.full == 1) ≡ false → HasNoPool slot.items
empty-has-not slot empty = λ caller is. absurd (cc (sym empty ∙ eq-eqb slot.full 1 (slot.counted ∙ ap length is)))
