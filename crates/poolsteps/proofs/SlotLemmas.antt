-- Each slot of the pool has its own place among the slots of a table.
use Rattle.std.proofs.Common.{◌≡◌, ◌≢◌, ⊎_elim, ℕ, ◌+◌, ◌*◌, ◌<◌, ◌≤◌, Bool, true, false, cond, nat_lt, ◌&&◌, eqb, List, length, slice_set, Option, refl, ap, sym, ◌∙◌, arith, eq-eqb, ne_eqb, lt-ltb}
use Rattle.std.proofs.lemmas.Bool.{and_from, and_left, and_right, cases_Bool}
use Rattle.std.proofs.lemmas.Nat.{same_from_place, mul-add-lt, mul-le}
use mathlib.Core.Option as maybe
use lib.ListN.{get_elem?}
use Rattle.atomic_table.proofs.Lists.{set_here, set_else}
use Rattle.keybits.specs.declared.shape.Shape.{Shape}
use Rattle.keybits.specs.Places.{shard_of}
use Rattle.keybits.specs.Shapes.{callers, IsShape, is_place, shard_places, index_of}
use Rattle.keybits.proofs.ShapeLemmas.{is_place-parts, index_of-lt, index_of-injective, position_of-lt, shape_bounds}
use Rattle.poolsteps.specs.Share.{Share}
use Rattle.poolsteps.specs.Shares.{with_slot}
use Rattle.poolsteps.proofs.shares.Cases.{each-slot}
use Rattle.poolsteps.specs.declared.layout.TheConstants.{SHARDS_APART}
use Rattle.poolsteps.specs.Layout.{slot_start, slot_row, slot_count, slot_index, slots_in}

-- the slot of a place stands inside a row
pub in-row : (z : Shape) (place : ℕ) → is_place z place ≡ true → slot_start z place < slot_row z
in-row z place inside =
    let low = position_of-lt z place inside in
    let shard = (is_place-parts z place inside).0 in
    omega arith

-- a row is short
pub row-small : (z : Shape) → IsShape z → slot_row z ≤ 2880896
row-small z ok = let bounds = shape_bounds z ok in omega (arith, bounds.all, bounds.lanes)

-- so are all rows of lanes before one
pub rows-small : (z : Shape) (lane row : ℕ) → IsShape z → lane ≤ (callers z) → row ≡ slot_row z → lane * row ≤ 773334815825920
rows-small z lane row ok low is =
    let few : lane ≤ 268435520 = omega (arith, low, (shape_bounds z ok).lanes, ok.guests) in
    mul-le lane row 268435520 2880896 few (omega (arith, is, row-small z ok))

-- each shard has the slots of its places in a row, and those behind them
in-shards : (shard places index : ℕ) → shard * (places + SHARDS_APART) + index ≡ shard * places + index + SHARDS_APART * shard
in-shards shard places index = omega arith

-- two slots at one place of a row are of one place
pub start-injective : (z : Shape) (p q : ℕ) → is_place z p ≡ true → is_place z q ≡ true → slot_start z p ≡ slot_start z q → p ≡ q
start-injective z p q p_inside q_inside same =
    let p_low = index_of-lt z p p_inside in
    let q_low = index_of-lt z q q_inside in
    let both = same_from_place (shard_of p) (index_of z p) (shard_of q) (index_of z q) (shard_places z + SHARDS_APART) (omega arith) (omega arith)
    (in-shards (shard_of p) (shard_places z) (index_of z p) ∙ (same ∙ sym (in-shards (shard_of q) (shard_places z) (index_of z q)))) in
    index_of-injective z p q p_inside q_inside both.0 both.1

pub slot-below : (z : Shape) (place number : ℕ) → is_place z place ≡ true → number < (callers z) → slot_index z place number < slot_count z
slot-below z place number inside below =
    let deep = mul-add-lt number (slot_row z) (slot_start z place) (callers z) below (in-row z place inside) in omega arith

-- two slots of the pool at one index are of one place and of one lane
pub slot-apart : (z : Shape) → IsShape z → (p k q m : ℕ) → is_place z p ≡ true → is_place z q ≡ true → slot_index z p k ≡ slot_index z q m → (p ≡ q) × (k ≡ m)
slot-apart z ok p k q m p_inside q_inside same =
    let both = same_from_place k (slot_start z p) m (slot_start z q) (slot_row z) (in-row z p p_inside) (in-row z q q_inside) same in
    (start-injective z p q p_inside q_inside both.1, both.0)

-- what a slot of the pool has
pub slot-is : {T : Type 0} (z : Shape) (homes : List (maybe.Option (Option (Share T)))) (place number : ℕ) → is_place z place ≡ true → number < (callers z)
    → slots_in z homes place number ≡ get_elem? homes (slot_index z place number)
slot-is {T} z homes place number inside below =
    ap (λ (b : Bool). let slot : maybe.Option (maybe.Option (Option (Share T))) = cond b (get_elem? homes (slot_index z place number)) maybe.none in slot)
    (and_from (is_place z place) (nat_lt number (callers z)) inside (lt-ltb number (callers z) below))

module _ {T : Type 0} (z : Shape) (ok : IsShape z) (homes : List (maybe.Option (Option (Share T)))) (deep : length homes ≡ slot_count z)
    (place number : ℕ) (inside : is_place z place ≡ true) (below : number < (callers z)) (value : maybe.Option (Option (Share T))) where
  abbrev At : Type 0
  At = maybe.Option (maybe.Option (Option (Share T)))

  -- the slots of the table after the one was set
  abbrev after : List (maybe.Option (Option (Share T)))
  after = slice_set homes (slot_index z place number) value

  set-here : slots_in z after place number ≡ maybe.some value
  set-here =
      let low = slot-below z place number inside below in
      slot-is z after place number inside below ∙ set_here homes (slot_index z place number) value (omega arith)

  set-other : (p k : ℕ) → slot_index z p k ≢ slot_index z place number → slots_in z after p k ≡ slots_in z homes p k
  set-other p k apart =
      ap (λ (slot : At). let x : At = cond (is_place z p && nat_lt k (callers z)) slot maybe.none in x) (set_else homes (slot_index z place number) (slot_index z p k) value apart)

  -- a slot that isn't the one keeps what it had
  set-else : (p k : ℕ) → ((p ≡ place) × (k ≡ number) → ⊥) → slots_in z after p k ≡ slots_in z homes p k
  set-else p k other = ⊎_elim
      (λ (is : is_place z p ≡ true). set-other p k (λ same. other (slot-apart z ok p k place number is inside same)))
      (λ (isnt : is_place z p ≡ false).
      let none : (is_place z p && nat_lt k (callers z)) ≡ false = and_left (is_place z p) (nat_lt k (callers z)) isnt in
      ap (λ (b : Bool). let x : At = cond b (get_elem? after (slot_index z p k)) maybe.none in x) none
      ∙ sym (ap (λ (b : Bool). let x : At = cond b (get_elem? homes (slot_index z p k)) maybe.none in x) none))
      (cases_Bool (is_place z p))

  -- one slot of the table is set, and that slot of the pool alone
  pub slots-set : slots_in z after ≡ with_slot (slots_in z homes) place number (maybe.some value)
  slots-set =
      let old : ℕ → ℕ → At = slots_in z homes in
      let one : At = maybe.some value in
      let each : (p k : ℕ) → slots_in z after p k ≡ with_slot old place number one p k = each-slot place number
      (set-here ∙ sym (ap (λ (b : Bool). cond b one (old place number)) (and_from (eqb place place) (eqb number number) (eq-eqb place place refl) (eq-eqb number number refl))))
      (λ k other. set-else place k (λ same. other same.1)
      ∙ sym (ap (λ (b : Bool). cond b one (old place k)) (and_right (eqb place place) (eqb k number) (ne_eqb k number other))))
      (λ p k other. set-else p k (λ same. other same.0)
      ∙ sym (ap (λ (b : Bool). cond b one (old p k)) (and_left (eqb p place) (eqb k number) (ne_eqb p place other)))) in
      λ i p k. each p k i
