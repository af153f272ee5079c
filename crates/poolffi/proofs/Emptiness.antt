-- Slots with a lane and without.
use Rattle.std.proofs.Common.{◌≡◌, ℕ, ◌+◌, ◌<◌, ◌==◌, true, false, List, [], ◌∷◌, length, slice_index_or, slice_set, refl, sym, ap, ◌∙◌, subst, arith, eqb-true, eq-eqb}
use Rattle.std.proofs.lemmas.List.{get_or_default, set-get_or}
use mathlib.Core.Logic.{dite}
use native.Mathlib.Decide.{ℕ_discrete}
use Rattle.poolhandle.specs.declared.slot.Slot.{Slot}
use Rattle.poolffi.specs.Exports.{HasLane, HasNoLane}

pub one-of : {X : Type 0} (items : List X) (count : ℕ) → count ≡ length items → count ≡ 1 → (x : X) × (items ≡ x ∷ [])
one-of [] count is one = absurd (omega arith)
one-of (x ∷ []) count is one = (x, refl)
one-of (x ∷ y ∷ more) count is one = absurd (omega arith)

pub full-has : (slot : Slot) → (slot.full == 1) ≡ true → HasLane slot.items
full-has slot full = one-of slot.items slot.full slot.counted (eqb-true slot.full 1 full)

pub empty-has-not : (slot : Slot) → (slot.full == 1) ≡ false → HasNoLane slot.items
empty-has-not slot empty = λ handle is. absurd (cc (sym empty ∙ eq-eqb slot.full 1 (slot.counted ∙ ap length is)))

-- what is put back changes nothing
pub put-back : {X : Type 0} (entries : List X) (index : ℕ) (entry other : X) → entry ≡ slice_index_or entries index other → slice_set entries index entry ≡ entries
put-back {X} entries index entry other same = ap (λ (x : X). slice_set entries index x) same ∙ set-get_or entries index other

-- the slots below this one have no lane
abbrev pub NoneBelow : ℕ → List Slot → Type 0
NoneBelow below slots = (index : ℕ) (other : Slot) → index < below → HasNoLane (slice_index_or slots index other).items

pub none-more : (slots : List Slot) (below : ℕ) (slot : Slot) → below < length slots → NoneBelow below slots → HasNoLane (slice_index_or slots below slot).items → NoneBelow (below + 1) slots
none-more slots below slot low none here index other under = dite (ℕ_discrete index below)
    (λ (same : index ≡ below).
    let is : slice_index_or slots below slot ≡ slice_index_or slots index other = get_or_default slots below slot other low ∙ ap (λ (n : ℕ). slice_index_or slots n other) (sym same) in
    subst (λ (s : Slot). HasNoLane s.items) is here)
    (λ differs. none index other (omega (arith, under, differs)))
