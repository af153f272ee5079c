-- How the places that a lane never opened stay with it.
use Rattle.std.proofs.Common.{◌≡◌, ℕ, ◌+◌, ◌*◌, ◌<◌, Bool, true, List, length, Some, ap, sym, ◌∙◌, subst, arith, length-set}
use Rattle.std.specs.Prelude.{slice_get, slice_set}
use Rattle.keybits.specs.declared.shape.Shape.{Shape}
use Rattle.keybits.specs.Places.{shard_of, page_of}
use Rattle.keybits.specs.Shapes.{IsShape, is_place, shard_places, index_of}
use Rattle.keybits.proofs.ShapeLemmas.{position_of-injective}
use Rattle.poolsteps.specs.Objects.{ObjectsOf}
use Rattle.shardpool.specs.LaneStates.{FitsRights}
use Rattle.shardpool.proofs.free.Stores.{stands-else}

-- two places of a shard with one index are one
index-injective : (z : Shape) → IsShape z → (p q : ℕ) → is_place z p ≡ true → is_place z q ≡ true → shard_of p ≡ shard_of q → index_of z p ≡ index_of z q → p ≡ q
index-injective z ok p q in_p in_q shard index =
    position_of-injective z ok p q in_p in_q (ap (λ (s : ℕ). s * shard_places z + index_of z p) shard ∙ ap (λ (i : ℕ). shard_of q * shard_places z + i) index)

-- they stay where the right to an opened place is changed
pub rights-set : {T : Type 0} {z : Shape} {number opened : ℕ} {old new : ObjectsOf T} → FitsRights z number opened old → IsShape z → (place : ℕ) (b : Bool) → is_place z place ≡ true
    → shard_of place ≡ number → page_of place < opened → new.first ≡ old.first → new.rights ≡ slice_set old.rights (index_of z place) b → FitsRights z number opened new
rights-set {z = z} {old = old} {new = new} fits shape place b inside own low first set = record {
  first_is = first ∙ fits.first_is;
  narrow = ap (λ (xs : List Bool). length xs) set ∙ (length-set old.rights (index_of z place) b ∙ fits.narrow);
  has_right = λ p inside_p own_p high.
      subst (λ (xs : List Bool). slice_get xs (index_of z p) ≡ Some true) (sym set)
      (stands-else old.rights (index_of z place) b (index_of z p) true
      (λ same. let page = ap page_of (index-injective z shape p place inside_p inside (own_p ∙ sym own) same) in omega (arith, low, high, page))
      (fits.has_right p inside_p own_p high));
}

-- and where the next page is opened
pub rights-opened : {T : Type 0} {z : Shape} {number opened : ℕ} {old new : ObjectsOf T} → FitsRights z number opened old → new.first ≡ old.first → length new.rights ≡ length old.rights
    → ((index : ℕ) → slice_get old.rights index ≡ Some true → slice_get new.rights index ≡ Some true) → FitsRights z number (opened + 1) new
rights-opened {z = z} fits first narrow more = record {
  first_is = first ∙ fits.first_is;
  narrow = narrow ∙ fits.narrow;
  has_right = λ p inside own high. more (index_of z p) (fits.has_right p inside own (omega (arith, high)));
}
