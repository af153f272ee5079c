-- The own places of a shard and their numbers.
use Rattle.std.proofs.Common.{◌≡◌, ℕ, ◌+◌, ◌*◌, ◌<◌, ◌≤◌, true, ap, sym, ◌∙◌, subst, arith}
use Rattle.std.proofs.lemmas.Nat.{same_from_place, mul-add-lt}
use Rattle.keybits.specs.declared.shape.Shape.{Shape}
use Rattle.keybits.specs.declared.place.Place.{Place}
use Rattle.keybits.specs.Places.{number_of, shard_of, page_of, slot_of}
use Rattle.keybits.specs.Shapes.{places_of_page, places_before, page_size, shard_places, all_places, is_place, index_of, position_of}
use Rattle.keybits.specs.Links.{link_to, linked_place}
use Rattle.keybits.proofs.LinkLemmas.{linked_place-link_to}
use Rattle.keybits.proofs.ShapeLemmas.{is_place-parts, is_place-place_at, page_size-le, index_of-lt, index_of-injective}
use Rattle.freelists.specs.Shards.{IsShardOf, IsOwn, place_numbered}

-- what the number of an own place tells
pub record OwnNumber (z : Shape) (number : ℕ) (place : Place) : Type 0 where
  pub low_page : place.page ≤ 15
  pub low_slot : place.slot ≤ 4095
  pub is_in : is_place z number ≡ true
  pub back : place_numbered number ≡ place
  pub below : index_of z number < shard_places z

same_parts : (place : Place) (shard page slot : ℕ) → shard ≡ place.shard → page ≡ place.page → slot ≡ place.slot
    → let made : Place = record { shard = shard; page = page; slot = slot } in made ≡ place
same_parts place shard page slot a b c = λ i. record { shard = a i; page = b i; slot = c i }

pub own_number : (z : Shape) (shard : ℕ) (place : Place) → IsShardOf shard z → IsOwn shard z place → OwnNumber z (number_of place) place
own_number z shard place ok own =
    let few : place.page < z.pages = own.in_pages in
    let pages : z.pages ≤ 16 = ok.shape.pages.1 in
    let small : page_size z place.page ≤ 4096 = page_size-le z place.page in
    let inside : place.slot < page_size z place.page = own.in_page in
    let shard_small : place.shard < z.lanes = subst (λ n. n < z.lanes) (sym own.of_shard) ok.shard_below in
    let is_one : is_place z (number_of place) ≡ true = is_place-place_at z ok.shape place.shard place.page place.slot shard_small few inside in
    record {
      low_page = omega arith;
      low_slot = omega arith;
      is_in = is_one;
      back = same_parts place (shard_of (number_of place)) (page_of (number_of place)) (slot_of (number_of place)) (omega arith) (omega arith) (omega arith);
      below = index_of-lt z (number_of place) is_one;
    }

pub shard_of-number : (z : Shape) (shard : ℕ) (place : Place) → IsShardOf shard z → IsOwn shard z place → shard_of (number_of place) ≡ shard
shard_of-number z shard place ok own =
    let n = own_number z shard place ok own in
    let page : place.page ≤ 15 = n.low_page in
    let slot : place.slot ≤ 4095 = n.low_slot in
    let e : place.shard ≡ shard = own.of_shard in
    omega arith

-- two own places with one number are one
pub same_own : (z : Shape) (shard : ℕ) (p q : Place) → IsShardOf shard z → IsOwn shard z p → IsOwn shard z q → number_of p ≡ number_of q → p ≡ q
same_own z shard p q ok a b same =
    sym (own_number z shard p ok a).back ∙ (ap place_numbered same ∙ (own_number z shard q ok b).back)

-- an own place is the one that its link word stands for
pub linked_own : (z : Shape) (shard link : ℕ) (place : Place) → IsShardOf shard z → IsOwn shard z place → link ≡ link_to (number_of place)
    → place_numbered (linked_place shard link) ≡ place
linked_own z shard link place ok own same =
    ap (λ w. place_numbered (linked_place shard w)) same
    ∙ (ap (λ s. place_numbered (linked_place s (link_to (number_of place)))) (sym (shard_of-number z shard place ok own))
    ∙ (ap place_numbered (linked_place-link_to (number_of place)) ∙ (own_number z shard place ok own).back))

-- an own place is one whose number is a place of the shard
pub own_from_number : (z : Shape) (shard n : ℕ) (place : Place) → is_place z n ≡ true → shard_of n ≡ shard
    → place.shard ≡ shard_of n → place.page ≡ page_of n → place.slot ≡ slot_of n → IsOwn shard z place
own_from_number z shard n place is_one in_shard a b c =
    let parts = is_place-parts z n is_one in
    record {
      of_shard = a ∙ in_shard;
      in_pages = subst (λ m. m < z.pages) (sym b) parts.1;
      in_page = subst (λ m. m < page_size z place.page) (sym c) (subst (λ m. slot_of n < page_size z m) (sym b) parts.2);
    }

-- a position of the shard, and the index that it stands for
pub position_below : (z : Shape) (shard index places : ℕ) → IsShardOf shard z → index < shard_places z → places ≡ shard_places z
    → shard * places + index < all_places z
position_below z shard index places ok below same =
    let fits : index < places = subst (λ n. index < n) (sym same) below in
    let step = mul-add-lt shard places index z.lanes ok.shard_below fits in
    let whole : z.lanes * places ≡ z.lanes * shard_places z = ap (λ n. z.lanes * n) same in
    omega (arith, step)

pub from_position : (z : Shape) (shard index places n : ℕ) → index < shard_places z → places ≡ shard_places z → is_place z n ≡ true
    → position_of z n ≡ shard * places + index → (shard_of n ≡ shard) × (index_of z n ≡ index)
from_position z shard index places n below same is_one e =
    let here : position_of z n ≡ shard * shard_places z + index = e ∙ ap (λ m. shard * m + index) same in
    same_from_place (shard_of n) (index_of z n) shard index (shard_places z) (index_of-lt z n is_one) below here

-- the own place of an index is one alone
pub own_at_index : (z : Shape) (shard : ℕ) (p q : Place) → IsShardOf shard z → IsOwn shard z p → IsOwn shard z q
    → index_of z (number_of p) ≡ index_of z (number_of q) → p ≡ q
own_at_index z shard p q ok a b same =
    same_own z shard p q ok a b
    (index_of-injective z (number_of p) (number_of q) (own_number z shard p ok a).is_in (own_number z shard q ok b).is_in
    (shard_of-number z shard p ok a ∙ sym (shard_of-number z shard q ok b)) same)

-- an own place is one in each shape whose shards have the same pages
pub own_in_shape : (z other : Shape) (shard : ℕ) (place : Place) → other.first_page ≡ z.first_page → other.pages ≡ z.pages → IsOwn shard z place → IsOwn shard other place
own_in_shape z other shard place first pages own = record {
  of_shard = own.of_shard;
  in_pages = subst (λ n. place.page < n) (sym pages) own.in_pages;
  in_page = subst (λ n. place.slot < places_of_page n place.page) (sym first) own.in_page;
}

-- and it has the same index there
pub index_in_shape : (z other : Shape) (number : ℕ) → other.first_page ≡ z.first_page → index_of other number ≡ index_of z number
index_in_shape z other number first = ap (λ n. places_before n (page_of number) + slot_of number) first
