-- What a place for a box owns and shares: a pointer, and the box that it points to, unless it is null.
use Rattle.std.specs.Prelude.{◌≡◌, ℕ, ◌+◌, Option, Some, None, IfSome}
use base.Fml.{Lft, Fml, ftrue, fsep, fex, fbor}
use denote.RattleType.{RattleType}
use denote.RawPtr.{Ptr, block_ptr, null_ptr}
use denote.Sharing.{said, beside, some, ends, always}
use base.Fml.{ffalse}
use Rattle.core.specs.Sync.RawAtomic.Pointer.{cell}
use Rattle.std.specs.declared.alloc.Global.{Global}
use Rattle.std.specs.contracts.impls.GlobalAllocator.TheImpl.{ghosts}
use Rattle.std_alloc.specs.Box.Ownership.{box_owns}

-- the handle of the heap, of which there is one value
abbrev pub heap_handle : Global
heap_handle = record { memory = record { seal = tt } }

abbrev pub fact : Type 0 → Fml
fact φ = fex φ (λ _. ftrue)

module _ (R : RattleType) where
  -- null with no object; or an object there, with the right to free it
  abbrev pub loose_owns : Ptr → Option R.Denot → Fml
  loose_owns p None = fact (p ≡ null_ptr)
  loose_owns p (Some x) = box_owns (ghosts.dealloc_token heap_handle) R p x

  module _ (ok : R.Denot → Type 0) where
    -- the same, of an object of which the fact holds
    abbrev pub rests : Ptr → Fml
    rests p = fex (Option R.Denot) (λ item. fsep (loose_owns p item) (fact (IfSome item ok)))

    abbrev pub place_owns : (Ptr → Fml) → Fml
    place_owns fields = fex Ptr (λ p. fsep (fields p) (rests p))

    -- what holds of the place between any two steps
    abbrev pub placed : ℕ → ℕ → Fml
    placed b o = place_owns (cell b (o + 0))

    abbrev pub place_shares : Ptr → Lft → Fml
    place_shares (block_ptr b o) = some Lft (λ α. beside (ends α) (always (fbor α (placed b o))))
    place_shares null_ptr = said ffalse
