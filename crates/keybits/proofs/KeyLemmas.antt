-- A key's number and its three parts.
use Rattle.std.proofs.Common.{◌≡◌, ◌==◌, ◌&&◌, ℕ, ◌<◌, ◌≤◌, true, nat_le, sym, ◌∙◌, ap, subst, arith, eq-eqb}
use Rattle.std.proofs.lemmas.Bool.{and_parts, and_from, eqb-true, leb-true, le-leb}
use Rattle.keybits.specs.declared.shape.Shape.{Shape}
use Rattle.keybits.specs.Shapes.{IsShape, is_place}
use Rattle.keybits.specs.Keys.{key_number, place_of, generation_of, tag_of, is_key}
use Rattle.keybits.proofs.ShapeLemmas.{place_bounds}

pub place_of-key_number : (tag place generation : ℕ) → place < 16777216 → place_of (key_number tag place generation) ≡ place
place_of-key_number tag place generation p = omega arith

pub generation_of-key_number : (tag place generation : ℕ) → place < 16777216 → generation < 4294967296 → generation_of (key_number tag place generation) ≡ generation
generation_of-key_number tag place generation p g = omega arith

pub tag_of-key_number : (tag place generation : ℕ) → place < 16777216 → generation < 4294967296 → tag_of (key_number tag place generation) ≡ tag
tag_of-key_number tag place generation p g = omega arith

-- the parts of a key's number make the number
pub key_number-parts : (key : ℕ) → key_number (tag_of key) (place_of key) (generation_of key) ≡ key
key_number-parts key = omega arith

pub place_of-lt : (key : ℕ) → place_of key < 16777216
place_of-lt key = omega arith

pub generation_of-lt : (key : ℕ) → generation_of key < 4294967296
generation_of-lt key = omega arith

-- what a key of the shape is made of
pub record KeyParts (z : Shape) (key : ℕ) : Type 0 where
  pub tag : tag_of key ≡ z.tag
  pub place : is_place z (place_of key) ≡ true
  pub first : 1 ≤ generation_of key
  pub last : generation_of key ≤ z.last_generation
  pub number : key ≡ key_number z.tag (place_of key) (generation_of key)

pub key_parts : (z : Shape) (key : ℕ) → is_key z key ≡ true → KeyParts z key
key_parts z key h =
    let whole = and_parts ((tag_of key == z.tag) && is_place z (place_of key) && nat_le 1 (generation_of key)) (nat_le (generation_of key) z.last_generation) h in
    let three = and_parts ((tag_of key == z.tag) && is_place z (place_of key)) (nat_le 1 (generation_of key)) whole.0 in
    let two = and_parts (tag_of key == z.tag) (is_place z (place_of key)) three.0 in
    let same : tag_of key ≡ z.tag = eqb-true (tag_of key) z.tag two.0 in
    record {
      tag = same;
      place = two.1;
      first = leb-true 1 (generation_of key) three.1;
      last = leb-true (generation_of key) z.last_generation whole.1;
      number = sym (key_number-parts key) ∙ ap (λ t. key_number t (place_of key) (generation_of key)) same;
    }

-- a number with such parts is a key of the shape
pub is_key-from_parts : (z : Shape) (key : ℕ) → tag_of key ≡ z.tag → is_place z (place_of key) ≡ true → 1 ≤ generation_of key → generation_of key ≤ z.last_generation → is_key z key ≡ true
is_key-from_parts z key t p low high =
    and_from ((tag_of key == z.tag) && is_place z (place_of key) && nat_le 1 (generation_of key)) (nat_le (generation_of key) z.last_generation)
    (and_from ((tag_of key == z.tag) && is_place z (place_of key)) (nat_le 1 (generation_of key))
    (and_from (tag_of key == z.tag) (is_place z (place_of key)) (eq-eqb (tag_of key) z.tag t) p)
    (le-leb 1 (generation_of key) low))
    (le-leb (generation_of key) z.last_generation high)

-- a place of the shape and a generation from 1 to the last make a key of the shape
pub is_key-key_number : (z : Shape) → IsShape z → z.last_generation < 4294967296 → (place generation : ℕ) → is_place z place ≡ true → 1 ≤ generation → generation ≤ z.last_generation → is_key z (key_number z.tag place generation) ≡ true
is_key-key_number z ok wide place generation p low high =
    let small : place < 16777216 = (place_bounds z ok place p).number in
    let fits : generation < 4294967296 = omega arith in
    let same = place_of-key_number z.tag place generation small in
    let lasts = generation_of-key_number z.tag place generation small fits in
    is_key-from_parts z (key_number z.tag place generation) (tag_of-key_number z.tag place generation small fits)
    (ap (λ n. is_place z n) same ∙ p)
    (subst (λ g. 1 ≤ g) (sym lasts) low)
    (subst (λ g. g ≤ z.last_generation) (sym lasts) high)
