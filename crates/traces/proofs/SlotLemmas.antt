-- The places of a page that is opened, and what is below a number.
use Rattle.std.proofs.Common.{◌≡◌, ◌≢◌, ℕ, zero, suc, ◌+◌, ◌*◌, ◌^◌, ◌<◌, ◌≤◌, Bool, true, false, eqb, ltb, refl, ap, sym, ◌∙◌, arith, eq-eqb, ne_eqb}
use mathlib.Core.Logic.{dite}
use native.Mathlib.Decide.{ℕ_discrete}
use Rattle.std.proofs.lemmas.Nat.{pow_pos}
use Rattle.std.proofs.Math.Nat.{mul-le-mul_left}
use borrow.Author.Tests.{ltb-true, ltb-false, lt-ltb}
use Rattle.keybits.specs.declared.shape.Shape.{Shape}
use Rattle.keybits.specs.Places.{shard_of, page_of, slot_of, place_at}
use Rattle.keybits.specs.Shapes.{IsShape, page_size}
use Rattle.keybits.specs.Counts.{times}
use Rattle.keybits.proofs.PlaceLemmas.{place_at-parts, shard_of-place_at, page_of-place_at, slot_of-place_at}
use Rattle.keybits.proofs.ShapeLemmas.{shape_bounds}
use Rattle.traces.specs.Books.{slots_from}
use Rattle.traces.specs.Parts.{count_if}

-- whether the place is this slot of the page, as a number
pub here_one : (shard page first p : ℕ) → place_at shard page first ≡ p → count_if (eqb (place_at shard page first) p) ≡ 1
here_one shard page first p same = ap count_if (eq-eqb (place_at shard page first) p same)

pub here_none : (shard page first p : ℕ) → place_at shard page first ≢ p → count_if (eqb (place_at shard page first) p) ≡ 0
here_none shard page first p other = ap count_if (ne_eqb (place_at shard page first) p other)

pub slot_here : (shard page first p : ℕ) → first < 4096 → place_at shard page first ≡ p → slot_of p ≡ first
slot_here shard page first p small same = sym (ap slot_of same) ∙ slot_of-place_at shard page first small

-- what is listed among the slots is a place of that page
pub slots_only : (shard page first count p : ℕ) → page < 16 → first + count ≤ 4096 → 0 < times p (slots_from shard page first count)
    → (shard_of p ≡ shard) × (page_of p ≡ page) × (first ≤ slot_of p) × (slot_of p < first + count)
slots_only shard page first zero p small fits some_times = absurd (omega arith)
slots_only shard page first (suc count) p small fits some_times = dite (ℕ_discrete (place_at shard page first) p)
    (λ same. let e : slot_of p ≡ first = slot_here shard page first p (omega arith) same in (
      sym (ap shard_of same) ∙ shard_of-place_at shard page first small (omega arith),
      sym (ap page_of same)
          ∙ page_of-place_at shard page first small (omega arith),
      omega arith,
      omega arith,
    ))
    (λ other. let none : count_if (eqb (place_at shard page first) p) ≡ 0 = here_none shard page first p other in
    let rest = slots_only shard page (first + 1) count p small (omega arith) (omega arith) in (rest.0, rest.1, omega arith, omega arith))

-- a place of a page from the first slot on is listed once among the slots from there
pub slots_inside : (shard page first count p : ℕ) → page < 16 → first + count ≤ 4096
    → shard_of p ≡ shard → page_of p ≡ page → first ≤ slot_of p → slot_of p < first + count → times p (slots_from shard page first count) ≡ 1
slots_inside shard page first zero p small fits s g low high = absurd (omega arith)
slots_inside shard page first (suc count) p small fits s g low high = dite (ℕ_discrete (slot_of p) first)
    (λ here. let parts = place_at-parts p in
    let same : place_at shard page first ≡ p = omega arith in
    let one : count_if (eqb (place_at shard page first) p) ≡ 1 = here_one shard page first p same in
    let none : times p (slots_from shard page (first + 1) count) ≡ 0 = none_after same in omega arith)
    (λ other. let rest = slots_inside shard page (first + 1) count p small (omega arith) s g (omega arith) (omega arith) in
    let none : count_if (eqb (place_at shard page first) p) ≡ 0 =
    here_none shard page first p (λ same. other (slot_here shard page first p (omega arith) same)) in omega arith)
  where
    none_after : place_at shard page first ≡ p → times p (slots_from shard page (first + 1) count) ≡ 0
    none_after same = at_zero (times p (slots_from shard page (first + 1) count)) (λ more.
        let rest = slots_only shard page (first + 1) count p small (omega arith) more in
        let e : slot_of p ≡ first = slot_here shard page first p (omega arith) same in omega arith)
      where
        at_zero : (n : ℕ) → (0 < n → n ≡ 0) → n ≡ 0
        at_zero zero h = refl
        at_zero (suc n) h = h (omega arith)

positive : (a b : ℕ) → 1 ≤ a → 0 < b → 0 < a * b
positive a b some_a some_b = let m : a * 1 ≤ a * b = mul-le-mul_left a some_b in omega arith

pub page_size-positive : (z : Shape) → IsShape z → (page : ℕ) → 0 < page_size z page
page_size-positive z shape page = let some = positive z.first_page (2 ^ page) (shape_bounds z shape).first_page.0 (pow_pos page) in omega (arith, some)

-- the place with this shard and page
pub whole : (q shard page : ℕ) → shard_of q ≡ shard → page_of q ≡ page → place_at shard page (slot_of q) ≡ q
whole q shard page s g = let w = place_at-parts q in omega arith

pub not_below : (a b : ℕ) → b ≤ a → ltb a b ≡ false
not_below a b h = by_test (ltb a b) refl
  where
    by_test : (t : Bool) → ltb a b ≡ t → ltb a b ≡ false
    by_test false e = e
    by_test true e = let less = ltb-true a b e in absurd (omega arith)

pub same_test : (a b : ℕ) → a ≢ b → ltb a (b + 1) ≡ ltb a b
same_test a b other = by_test (ltb a b) refl
  where
    by_test : (t : Bool) → ltb a b ≡ t → ltb a (b + 1) ≡ ltb a b
    by_test true e = let less = ltb-true a b e in lt-ltb a (b + 1) (omega arith) ∙ sym e
    by_test false e = let less = ltb-false a b e in not_below a (b + 1) (omega arith) ∙ sym e
