-- The slots of a table before the first step: none has a share.
use Rattle.poolsteps.specs.Spot.{Spot as CellSpot}
use Rattle.std.proofs.Common.{◌≡◌, ⊎_elim, ℕ, zero, suc, ◌<◌, Bool, true, cond, List, [], ◌∷◌, ◌++◌, map, length, slice_get, nat_lt, Option, Some, None, ap, sym, ◌∙◌, refl, arith}
use Rattle.std.proofs.lemmas.Bool.{and_from, lt-ltb}
use mathlib.Core.Option as maybe
use mathlib.Core.Option.{some}
use lib.ListN.{get_elem?}
use Rattle.keybits.specs.declared.shape.Shape.{Shape}
use Rattle.keybits.specs.Shapes.{callers, is_place}
use Rattle.poolsteps.specs.Share.{Share}
use Rattle.poolsteps.specs.Shares.{IsEmpty}
use Rattle.poolsteps.specs.Layout.{slot_count, slot_index, slots_in}
use Rattle.poolsteps.proofs.SlotLemmas.{slot-below}
use Rattle.poolsteps.proofs.ViewLemmas.{entry-of}

-- each slot has none
abbrev pub AreNone : {A : Type 0} → List (Option A) → Type 0
AreNone {A} slots = (index : ℕ) (slot : Option A) → slice_get slots index ≡ Some slot → slot ≡ None

pub none-first : {A : Type 0} (slots : List (Option A)) → slots ≡ [] → AreNone slots
none-first {A} slots empty index slot is = let nowhere : None ≡ Some slot = ap (λ (list : List (Option A)). slice_get list index) (sym empty) ∙ is in absurd (cc nowhere)

pub none-more : {A : Type 0} (slots : List (Option A)) → AreNone slots → AreNone (slots ++ None ∷ [])
none-more {A} slots none index slot is = ⊎_elim (λ (there : slice_get slots index ≡ Some slot). none index slot there)
    (λ (new : (index ≡ length slots) × (None ≡ slot)). sym new.1) (entry-of slots None slot index is)

-- a slot of the table is at home, with none
none-at : {A : Type 0} (slots : List (Option A)) → AreNone slots → (index : ℕ) → index < length slots → get_elem? (map some slots) index ≡ some (some None)
none-at {A} [] none index below = absurd (omega arith)
none-at {A} (slot ∷ more) none zero below = ap (λ (value : Option A). some (some value)) (none 0 slot refl)
none-at {A} (slot ∷ more) none (suc index) below = none-at more (λ k other is. none (suc k) other is) index (omega arith)

-- so is each slot of the pool
pub slots-empty : {T : Type 0} (content : T → List ℕ) (room : T → ℕ) (spots : ℕ → CellSpot) (z : Shape) (slots : List (Option (Share T))) → length slots ≡ slot_count z → AreNone slots
    → (place lane : ℕ) → is_place z place ≡ true → lane < (callers z) → IsEmpty content room spots (slots_in z (map some slots)) place lane
slots-empty {T} content room spots z slots count none place lane inside below =
    let has = and_from (is_place z place) (nat_lt lane (callers z)) inside (lt-ltb lane (callers z) below) in
    let deep = slot-below z place lane inside below in
    let i : ℕ = slot_index z place lane in
    ap (λ (b : Bool). cond b (get_elem? (map some slots) i) maybe.none) has ∙ none-at slots none i (omega arith)
