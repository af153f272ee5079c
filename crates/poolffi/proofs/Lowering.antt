-- Handles, put into slots one after another.
use Rattle.std.proofs.Common.{◌≡◌, ℕ, suc, ◌+◌, ◌<◌, List, [], ◌∷◌, length, slice_get, slice_index_or, slice_set, Some, refl, sym, ap, ◌∙◌, subst, arith, Box, Global}
use Rattle.std.proofs.lemmas.List.{length-set, get_or-set_same, get_or-set_other}
use Rattle.std.proofs.lemmas.Option.{slice_get-get_or, slice_get_within, get_or_from_slice_get}
use mathlib.Core.Logic.{dite}
use native.Mathlib.Decide.{ℕ_discrete}
use Rattle.poolhandle.specs.declared.handle.Handle.{Handle}
use Rattle.poolhandle.specs.declared.slot.Slot.{Slot}
use Rattle.poolffi.specs.Exports.{AreLowered}

-- these are the entries of a list from an index on
abbrev pub Follow : {X : Type 0} → ℕ → List X → List X → Type 0
Follow {X} from rest entries = (at : ℕ) (entry : X) → slice_get rest at ≡ Some entry → slice_get entries (from + at) ≡ Some entry

pub follow-first : {X : Type 0} (entries : List X) → Follow 0 entries entries
follow-first {X} entries at entry is = let same : 0 + at ≡ at = omega arith in subst (λ (n : ℕ). slice_get entries n ≡ Some entry) (sym same) is

pub follow-head : {X : Type 0} (from : ℕ) (entry : X) (rest entries : List X) → Follow from (entry ∷ rest) entries → slice_get entries from ≡ Some entry
follow-head {X} from entry rest entries next = let none : from + 0 ≡ from = omega arith in subst (λ (n : ℕ). slice_get entries n ≡ Some entry) none (next 0 entry refl)

pub follow-tail : {X : Type 0} (from : ℕ) (entry : X) (rest entries : List X) → Follow from (entry ∷ rest) entries → Follow (from + 1) rest entries
follow-tail {X} from entry rest entries next at other is =
    let same : from + suc at ≡ (from + 1) + at = omega arith in subst (λ (n : ℕ). slice_get entries n ≡ Some other) same (next (suc at) other is)

-- the slots below this one have the handles of their indices
abbrev pub LoweredBelow : ℕ → List (Box Handle Global) → List Slot → Type 0
LoweredBelow below handles slots = (index : ℕ) (slot : Slot) → index < below → slice_get slots index ≡ Some slot
    → (handle : Box Handle Global) × (slice_get handles index ≡ Some handle) × (slot.items ≡ handle.value ∷ [])

pub one-lowered : (below : ℕ) (handles : List (Box Handle Global)) (slots : List Slot) (handle : Box Handle Global) (full : Slot) → below < length slots → LoweredBelow below handles slots
    → slice_get handles below ≡ Some handle → full.items ≡ handle.value ∷ [] → LoweredBelow (below + 1) handles (slice_set slots below full)
one-lowered below handles slots handle full low before here is index slot under at = let set = slice_set slots below full in let long = length-set slots below full in
    let within = slice_get_within set index slot at in let got = get_or_from_slice_get set index slot slot at in dite (ℕ_discrete index below)
    (λ (same : index ≡ below).
    let one : full ≡ slot = sym (get_or-set_same slots below full slot low) ∙ (ap (λ (n : ℕ). slice_index_or set n slot) (sym same) ∙ got) in
    (handle, subst (λ (n : ℕ). slice_get handles n ≡ Some handle) (sym same) here, ap (λ (s : Slot). s.items) (sym one) ∙ is))
    (λ differs.
    let old = sym (get_or-set_other slots below index full slot differs) ∙ got in
    before index slot (omega (arith, under, differs)) (slice_get-get_or slots index slot (omega (arith, within, long)) ∙ ap Some old))

pub all-lowered : (below : ℕ) (handles : List (Box Handle Global)) (slots : List Slot) → below ≡ length slots → LoweredBelow below handles slots → AreLowered handles slots
all-lowered below handles slots all done index slot at = let within = slice_get_within slots index slot at in done index slot (omega (arith, within, all)) at
