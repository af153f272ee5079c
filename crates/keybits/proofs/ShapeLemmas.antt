-- The places of a checked shape.
use Rattle.std.proofs.Common.{◌≡◌, ◌==◌, ◌&&◌, ◌||◌, ◌↔◌, ℕ, zero, suc, ◌+◌, ◌-◌, ◌*◌, ◌/◌, ◌%◌, ◌^◌, ◌<◌, ◌≤◌, Bool, true, nat_lt, nat_le, sym, ◌∙◌, ap, subst, refl, arith, ⊎_elim, mul_assoc, mul_comm}
use Rattle.std.specs.Int.{is_power_of_two}
use Rattle.std.specs.Int.Count.{ones}
use Rattle.std.proofs.lemmas.Bool.{and_parts, and_from, or_cases, ltb-true, leb-true, lt-ltb, eqb-true, cases_lt, cases_order, agree_below_at}
use Rattle.std.proofs.lemmas.Nat.{mul-le, pow_pos, pow-add, same_from_place, mul-add-lt, div-add-mod', mod_below}
use Rattle.std.proofs.Math.Nat.{pow-le-pow_right, mul-le-mul_left}
use Rattle.keybits.specs.declared.shape.Shape.{Shape}
use Rattle.keybits.specs.Places.{shard_of, page_of, slot_of, place_at}
use Rattle.keybits.specs.Shapes.{IsFirstPage, IsShape, IsInPage, places_of_page, places_before, page_size, page_start, shard_places, all_places, is_place, index_of, position_of}
use Rattle.keybits.proofs.PlaceLemmas.{shard_of-place_at, page_of-place_at, slot_of-place_at}

-- ---- pages, whatever the shape

-- a page ends where the next one starts
pub start_more : (first page : ℕ) → places_before first page + places_of_page first page ≡ places_before first (page + 1)
start_more first page = let next : suc page ≡ page + 1 = omega arith in ap (λ n. places_before first n) next

start-add : (first page more next : ℕ) → next ≡ page + more → places_before first page ≤ places_before first next
start-add first page zero next is =
    let same : page ≡ next = omega arith in
    let starts : places_before first page ≡ places_before first next = ap (λ n. places_before first n) same in omega arith
start-add first page (suc more) next is =
    let rest : places_before first page ≤ places_before first (page + more) = start-add first page more (page + more) refl in
    let same : page + more + 1 ≡ next = omega arith in
    let starts : places_before first (page + more + 1) ≡ places_before first next = ap (λ n. places_before first n) same in
    omega (arith, rest, starts, start_more first (page + more))

pub start-le : (first page pages : ℕ) → page ≤ pages → places_before first page ≤ places_before first pages
start-le first page pages le = start-add first page (pages - page) pages (omega arith)

-- a slot of a page comes before the pages that follow
pub index-lt : (first page slot next : ℕ) → slot < places_of_page first page → page < next → places_before first page + slot < places_before first next
index-lt first page slot next small below =
    let le : page + 1 ≤ next = omega arith in
    omega (arith, start_more first page, start-le first (page + 1) next le)

-- one index, one page and one slot
pub same_from_index : (first p a q b : ℕ) → a < places_of_page first p → b < places_of_page first q → places_before first p + a ≡ places_before first q + b → (p ≡ q) × (a ≡ b)
same_from_index first p a q b small_a small_b same =
    ⊎_elim
    (λ (e : p ≡ q). let starts : places_before first p ≡ places_before first q = ap (λ n. places_before first n) e in (e, omega arith))
    (λ order. ⊎_elim
    (λ (lt : p < q). absurd (omega (arith, index-lt first p a q small_a lt)))
    (λ (lt : q < p). absurd (omega (arith, index-lt first q b p small_b lt)))
    order)
    (cases_order p q)

-- ---- pages from a first page that is a power of two

-- a power of two up to the places of the largest page
pub power-le : (n : ℕ) → n ≤ 12 → 2 ^ n ≤ 4096
power-le n low = let two : 0 < 2 = omega arith in pow-le-pow_right {n = 2} two {i = n} {j = 12} low

pub power-ge : (n : ℕ) → 12 ≤ n → 4096 ≤ 2 ^ n
power-ge n high = let two : 0 < 2 = omega arith in pow-le-pow_right {n = 2} two {i = 12} {j = n} high

power-over : (n : ℕ) → 13 ≤ n → 8192 ≤ 2 ^ n
power-over n high = let two : 0 < 2 = omega arith in pow-le-pow_right {n = 2} two {i = 13} {j = n} high

-- while pages double, those before a page have as many places as it, less those of the first
pub start-doubling : (k page : ℕ) → k + page ≤ 12 → places_before (2 ^ k) page + 2 ^ k ≡ 2 ^ k * 2 ^ page
start-doubling k zero low = let one : 2 ^ k * 2 ^ 0 ≡ 2 ^ k = omega arith in let none : places_before (2 ^ k) 0 ≡ 0 = refl in omega (arith, one, none)
start-doubling k (suc page) low =
    let rest : places_before (2 ^ k) page + 2 ^ k ≡ 2 ^ k * 2 ^ page = start-doubling k page (omega arith) in
    let power : 2 ^ (k + page) ≡ 2 ^ k * 2 ^ page = pow-add 2 k page in
    let small : 2 ^ (k + page) ≤ 4096 = power-le (k + page) (omega arith) in
    let next : suc page ≡ page + 1 = omega arith in
    let double : 2 ^ k * 2 ^ suc page ≡ 2 ^ k * 2 ^ page * 2 = ap (λ n. 2 ^ k * n) (ap (λ n. 2 ^ n) next ∙ pow-add 2 page 1) ∙ sym (mul_assoc (2 ^ k) (2 ^ page) 2) in
    let more : places_before (2 ^ k) (suc page) ≡ places_before (2 ^ k) page + places_of_page (2 ^ k) page = refl in
    omega (arith, rest, power, small, double, more)

-- from then on each page has the most
pub full-page : (k page : ℕ) → 12 ≤ k + page → places_of_page (2 ^ k) page ≡ 4096
full-page k page high =
    let power : 2 ^ (k + page) ≡ 2 ^ k * 2 ^ page = pow-add 2 k page in
    let large = power-ge (k + page) high in omega (arith, power, large)

pub start-full : (k page more next : ℕ) → k + page ≡ 12 → next ≡ page + more → places_before (2 ^ k) next + 2 ^ k ≡ 4096 * (more + 1)
start-full k page zero next whole is =
    let power : 2 ^ (k + page) ≡ 2 ^ k * 2 ^ page = pow-add 2 k page in
    let most : 2 ^ (k + page) ≡ 4096 = ap (λ n. 2 ^ n) whole in
    let same : page ≡ next = omega arith in
    let starts : places_before (2 ^ k) page ≡ places_before (2 ^ k) next = ap (λ n. places_before (2 ^ k) n) same in
    omega (arith, start-doubling k page (omega arith), power, most, starts)
start-full k page (suc more) next whole is =
    let rest : places_before (2 ^ k) (page + more) + 2 ^ k ≡ 4096 * (more + 1) = start-full k page more (page + more) whole refl in
    let full : places_of_page (2 ^ k) (page + more) ≡ 4096 = full-page k (page + more) (omega arith) in
    let same : page + more + 1 ≡ next = omega arith in
    let starts : places_before (2 ^ k) (page + more + 1) ≡ places_before (2 ^ k) next = ap (λ n. places_before (2 ^ k) n) same in
    omega (arith, rest, full, starts, start_more (2 ^ k) (page + more))

-- sixteen pages have few places
pub start-few : (k pages : ℕ) → k ≤ 6 → pages ≤ 16 → places_before (2 ^ k) pages ≤ 44992
start-few k pages low few =
    let most = start-le (2 ^ k) pages 16 few in
    let all : nat_le (places_before (2 ^ k) 16) 44992 ≡ true
    = agree_below_at (λ j. nat_le (places_before (2 ^ j) 16) 44992) (λ j. true) 7 k refl (omega arith) in
    omega (arith, most, leb-true (places_before (2 ^ k) 16) 44992 all)

-- ---- places

pub is_place-parts : (z : Shape) (p : ℕ) → is_place z p ≡ true → (shard_of p < z.lanes) × (page_of p < z.pages) × (slot_of p < page_size z (page_of p))
is_place-parts z p h =
    let whole = and_parts (nat_lt (shard_of p) z.lanes && nat_lt (page_of p) z.pages) (nat_lt (slot_of p) (page_size z (page_of p))) h in
    let two = and_parts (nat_lt (shard_of p) z.lanes) (nat_lt (page_of p) z.pages) whole.0 in
    (ltb-true (shard_of p) z.lanes two.0, ltb-true (page_of p) z.pages two.1, ltb-true (slot_of p) (page_size z (page_of p)) whole.1)

pub is_place-from_parts : (z : Shape) (p : ℕ) → shard_of p < z.lanes → page_of p < z.pages → slot_of p < page_size z (page_of p) → is_place z p ≡ true
is_place-from_parts z p a b c =
    and_from (nat_lt (shard_of p) z.lanes && nat_lt (page_of p) z.pages) (nat_lt (slot_of p) (page_size z (page_of p)))
    (and_from (nat_lt (shard_of p) z.lanes) (nat_lt (page_of p) z.pages) (lt-ltb (shard_of p) z.lanes a) (lt-ltb (page_of p) z.pages b))
    (lt-ltb (slot_of p) (page_size z (page_of p)) c)

-- how large the parts of a checked shape are
pub record ShapeBounds (z : Shape) : Type 0 where
  pub lanes : z.lanes ≤ 64
  pub first_page : (1 ≤ z.first_page) × (z.first_page ≤ 64)
  pub pages : z.pages ≤ 16
  pub shard : (1 ≤ shard_places z) × (shard_places z ≤ 44992)
  pub all : all_places z ≤ 2879488

pub shape_bounds : (z : Shape) → IsShape z → ShapeBounds z
shape_bounds z ok =
    let two : 0 < 2 = omega arith in
    let first : z.first_page ≤ 64 = subst (λ n. n ≤ 64) (sym ok.first_page.2) (pow-le-pow_right {n = 2} two {i = ok.first_page.0} {j = 6} ok.first_page.1) in
    let some : 1 ≤ z.first_page = subst (λ n. 1 ≤ n) (sym ok.first_page.2) (pow_pos ok.first_page.0) in
    let one : 1 ≤ places_before z.first_page 1 = omega (arith, some) in
    let more = start-le z.first_page 1 z.pages ok.pages.0 in
    let shard : shard_places z ≤ 44992 = subst (λ n. places_before n z.pages ≤ 44992) (sym ok.first_page.2) (start-few ok.first_page.0 z.pages ok.first_page.1 ok.pages.1) in
    record {
      lanes = ok.lanes.1;
      first_page = (some, first);
      pages = ok.pages.1;
      shard = (omega (arith, one, more), shard);
      all = mul-le z.lanes (shard_places z) 64 44992 ok.lanes.1 shard;
    }

pub page_size-le : (z : Shape) (page : ℕ) → page_size z page ≤ 4096
page_size-le z page = omega arith

-- how large the numbers of a place of a checked shape are
pub record PlaceBounds (z : Shape) (p : ℕ) : Type 0 where
  pub shard : shard_of p < 64
  pub page : page_of p < 16
  pub slot : slot_of p < 4096
  pub number : p < 16777216
  pub index : index_of z p < shard_places z
  pub position : position_of z p < all_places z
  pub all : all_places z ≤ 2879488

pub index_of-lt : (z : Shape) (p : ℕ) → is_place z p ≡ true → index_of z p < shard_places z
index_of-lt z p h = let parts = is_place-parts z p h in index-lt z.first_page (page_of p) (slot_of p) z.pages parts.2 parts.1

pub position_of-lt : (z : Shape) (p : ℕ) → is_place z p ≡ true → position_of z p < all_places z
position_of-lt z p h =
    let parts = is_place-parts z p h in
    let step = mul-add-lt (shard_of p) (shard_places z) (index_of z p) z.lanes parts.0 (index_of-lt z p h) in
    omega (arith, step)

pub place_bounds : (z : Shape) → IsShape z → (p : ℕ) → is_place z p ≡ true → PlaceBounds z p
place_bounds z ok p h =
    let parts = is_place-parts z p h in
    let bounds = shape_bounds z ok in
    let shard : shard_of p < 64 = omega (arith, parts.0, bounds.lanes) in
    record {
      shard = shard;
      page = omega (arith, parts.1, bounds.pages);
      slot = omega (arith, parts.2, page_size-le z (page_of p));
      number = omega arith;
      index = index_of-lt z p h;
      position = position_of-lt z p h;
      all = bounds.all;
    }

-- two places of a shard with one index are one
pub index_of-injective : (z : Shape) (p q : ℕ) → is_place z p ≡ true → is_place z q ≡ true → shard_of p ≡ shard_of q → index_of z p ≡ index_of z q → p ≡ q
index_of-injective z p q hp hq shard same =
    let both = same_from_index z.first_page (page_of p) (slot_of p) (page_of q) (slot_of q) (is_place-parts z p hp).2 (is_place-parts z q hq).2 same in
    omega (arith, both.0, both.1, shard)

-- two places with one position are one
pub position_of-injective : (z : Shape) → IsShape z → (p q : ℕ) → is_place z p ≡ true → is_place z q ≡ true → position_of z p ≡ position_of z q → p ≡ q
position_of-injective z ok p q hp hq same =
    let both = same_from_place (shard_of p) (index_of z p) (shard_of q) (index_of z q) (shard_places z) (index_of-lt z p hp) (index_of-lt z q hq) same in
    index_of-injective z p q hp hq both.0 both.1

-- a shard, a page and a slot within the shape are those of a place
pub is_place-place_at : (z : Shape) → IsShape z → (shard page slot : ℕ) → shard < z.lanes → page < z.pages → slot < page_size z page → is_place z (place_at shard page slot) ≡ true
is_place-place_at z ok shard page slot a b c =
    let low : page < 16 = omega (arith, ok.pages.1) in
    let small : slot < 4096 = omega (arith, c, page_size-le z page) in
    let same_shard = shard_of-place_at shard page slot low small in
    let same_page = page_of-place_at shard page slot low small in
    let same_slot = slot_of-place_at shard page slot small in
    is_place-from_parts z (place_at shard page slot)
    (subst (λ n. n < z.lanes) (sym same_shard) a)
    (subst (λ n. n < z.pages) (sym same_page) b)
    (subst (λ n. n < page_size z (page_of (place_at shard page slot))) (sym same_slot) (subst (λ n. slot < page_size z n) (sym same_page) c))

-- ---- what the code computes

-- the tests of the powers of two up to 64
abbrev listed : ℕ → Bool
listed m = (m == 1) || ((m == 2) || ((m == 4) || ((m == 8) || ((m == 16) || ((m == 32) || (m == 64))))))

listed_power : (n : ℕ) → listed n ≡ true → (k : ℕ) × (k ≤ 6) × (n ≡ 2 ^ k)
listed_power n h =
    ⊎_elim (λ e. (0, omega arith, eqb-true n 1 e))
    (λ r. ⊎_elim (λ e. (1, omega arith, eqb-true n 2 e))
    (λ r. ⊎_elim (λ e. (2, omega arith, eqb-true n 4 e))
    (λ r. ⊎_elim (λ e. (3, omega arith, eqb-true n 8 e))
    (λ r. ⊎_elim (λ e. (4, omega arith, eqb-true n 16 e))
    (λ r. ⊎_elim (λ e. (5, omega arith, eqb-true n 32 e)) (λ e. (6, omega arith, eqb-true n 64 e))
    (or_cases (n == 32) (n == 64) r))
    (or_cases (n == 16) _ r))
    (or_cases (n == 8) _ r))
    (or_cases (n == 4) _ r))
    (or_cases (n == 2) _ r))
    (or_cases (n == 1) _ h)

-- the powers of two up to 64
pub small_power : (n : ℕ) → n ≤ 64 → (is_power_of_two n ≡ true) ↔ ((k : ℕ) × (k ≤ 6) × (n ≡ 2 ^ k))
unfolding ones
small_power n small = (
  λ h. listed_power n (sym (agree_below_at (λ m. is_power_of_two m) (λ m. listed m) 65 n refl (omega arith)) ∙ h),
  λ p. ap (λ m. is_power_of_two m) p.2 ∙ agree_below_at (λ j. is_power_of_two (2 ^ j)) (λ j. true) 7 p.0 refl (omega (arith, p.1)),
)

-- two powers of two with a number between them tell its logarithm
pub same_logarithm : (k r : ℕ) → 2 ^ r ≤ 2 ^ k → 2 ^ k < 2 * 2 ^ r → r ≡ k
same_logarithm k r low high =
    let two : 0 < 2 = omega arith in
    ⊎_elim (λ (e : r ≡ k). e)
    (λ order. ⊎_elim
    (λ (lt : r < k). let le : r + 1 ≤ k = omega arith in
    let powers : 2 ^ (r + 1) ≤ 2 ^ k = pow-le-pow_right {n = 2} two {i = r + 1} {j = k} le in
    absurd (omega (arith, powers, pow-add 2 r 1)))
    (λ (lt : k < r). let le : k + 1 ≤ r = omega arith in
    let powers : 2 ^ (k + 1) ≤ 2 ^ r = pow-le-pow_right {n = 2} two {i = k + 1} {j = r} le in
    absurd (omega (arith, powers, pow-add 2 k 1, pow_pos k)))
    order)
    (cases_order r k)

-- the places before a page, by the size that it would have
pub start_by_size : (k page size : ℕ) → k ≤ 6 → size ≡ 2 ^ k * 2 ^ page → size ≤ 4096 → size - 2 ^ k ≡ places_before (2 ^ k) page
start_by_size k page size few is small =
    let power : 2 ^ (k + page) ≡ 2 ^ k * 2 ^ page = pow-add 2 k page in
    let low : k + page ≤ 12 = ⊎_elim (λ (lt : k + page < 13). omega arith) (λ (ge : 13 ≤ k + page). absurd (omega (arith, power-over (k + page) ge, power, is, small))) (cases_lt (k + page) 13) in
    omega (arith, start-doubling k page low, is)

-- and where it would have more than the most
pub start_by_count : (k page size : ℕ) → k ≤ 6 → size ≡ 2 ^ k * 2 ^ page → 4096 < size
    → (11 ≤ page + k) × ((page + k - 11) * 4096 - 2 ^ k ≡ places_before (2 ^ k) page) × (2 ^ k ≤ (page + k - 11) * 4096)
start_by_count k page size few is large =
    let power : 2 ^ (k + page) ≡ 2 ^ k * 2 ^ page = pow-add 2 k page in
    let high : 13 ≤ k + page = ⊎_elim (λ (lt : k + page < 13). absurd (omega (arith, power-le (k + page) (omega arith), power, is, large))) (λ (ge : 13 ≤ k + page). ge) (cases_lt (k + page) 13) in
    let full = start-full k (12 - k) (page + k - 12) page (omega arith) (omega arith) in
    (omega arith, omega (arith, full), omega (arith, full))

-- the logarithm that gives an index's page, while pages double
pub page_by_logarithm : (k pages page index : ℕ) → k ≤ 6 → index < places_before (2 ^ k) pages → index + 2 ^ k < 8192
    → 2 ^ page ≤ (index + 2 ^ k) / 2 ^ k → (index + 2 ^ k) / 2 ^ k < 2 * 2 ^ page → IsInPage (2 ^ k) pages page index
page_by_logarithm k pages page index few below small low high =
    let some : 0 < 2 ^ k = pow_pos k in
    let whole : (index + 2 ^ k) / 2 ^ k * 2 ^ k + (index + 2 ^ k) % 2 ^ k ≡ index + 2 ^ k = div-add-mod' (index + 2 ^ k) (2 ^ k) in
    let left : (index + 2 ^ k) % 2 ^ k < 2 ^ k = mod_below (index + 2 ^ k) (2 ^ k) some in
    let least : 2 ^ k * 2 ^ page ≤ 2 ^ k * ((index + 2 ^ k) / 2 ^ k) = mul-le-mul_left (2 ^ k) low in
    let next : (index + 2 ^ k) / 2 ^ k + 1 ≤ 2 ^ page * 2 = omega arith in
    let most : 2 ^ k * ((index + 2 ^ k) / 2 ^ k + 1) ≤ 2 ^ k * (2 ^ page * 2) = mul-le-mul_left (2 ^ k) next in
    let double : 2 ^ k * (2 ^ page * 2) ≡ 2 ^ k * 2 ^ page * 2 = sym (mul_assoc (2 ^ k) (2 ^ page) 2) in
    let turned : 2 ^ k * ((index + 2 ^ k) / 2 ^ k) ≡ (index + 2 ^ k) / 2 ^ k * 2 ^ k = mul_comm (2 ^ k) ((index + 2 ^ k) / 2 ^ k) in
    let power : 2 ^ (k + page) ≡ 2 ^ k * 2 ^ page = pow-add 2 k page in
    let fits : k + page ≤ 12 = ⊎_elim (λ (lt : k + page < 13). omega arith)
    (λ (ge : 13 ≤ k + page). absurd (omega (arith, power-over (k + page) ge, power, least, turned, whole, small))) (cases_lt (k + page) 13) in
    let tops : 2 ^ (k + page) ≤ 4096 = power-le (k + page) fits in
    let start = start-doubling k page fits in
    let spread : 2 ^ k * ((index + 2 ^ k) / 2 ^ k + 1) ≡ 2 ^ k * ((index + 2 ^ k) / 2 ^ k) + 2 ^ k = omega arith in
    let starts : places_before (2 ^ k) page ≤ index = omega (arith, start, least, turned, whole) in record {
      opened = ⊎_elim (λ (lt : page < pages). lt) (λ (le : pages ≤ page). absurd (omega (arith, start-le (2 ^ k) pages page le, starts))) (cases_lt page pages);
      starts = starts;
      ends = omega (arith, start, most, double, spread, turned, whole, left, tops, power, starts);
    }

-- the division that gives an index's page, where pages have the most
pub page_by_division : (k pages index : ℕ) → k ≤ 6 → index < places_before (2 ^ k) pages → 8192 ≤ index + 2 ^ k
    → IsInPage (2 ^ k) pages ((index + 2 ^ k) / 4096 + 11 - k) index
page_by_division k pages index few below large =
    let count : ℕ = (index + 2 ^ k) / 4096 in
    let page : ℕ = count + 11 - k in
    let two : 2 ≤ count = omega arith in
    let full = start-full k (12 - k) (count - 1) page (omega arith) (omega arith) in
    let size : places_of_page (2 ^ k) page ≡ 4096 = full-page k page (omega arith) in
    let starts : places_before (2 ^ k) page ≤ index = omega (arith, full) in record {
      opened = ⊎_elim (λ (lt : page < pages). lt) (λ (le : pages ≤ page). absurd (omega (arith, start-le (2 ^ k) pages page le, starts))) (cases_lt page pages);
      starts = starts;
      ends = omega (arith, full, size, starts);
    }

-- ---- and by a first page

-- a first page's size, shifted by a number of pages, fits
shift-fits : (first page : ℕ) → first ≤ 64 → page ≤ 16 → first * 2 ^ page % 4294967296 ≡ first * 2 ^ page
shift-fits first page few low =
    let two : 0 < 2 = omega arith in
    let powers : 2 ^ page ≤ 65536 = pow-le-pow_right {n = 2} two {i = page} {j = 16} low in
    let small : first * 2 ^ page ≤ 4194304 = mul-le first (2 ^ page) 64 65536 few powers in omega arith

first-few : (first : ℕ) → IsFirstPage first → first ≤ 64
first-few first (k, few, is) = let two : 0 < 2 = omega arith in subst (λ n. n ≤ 64) (sym is) (pow-le-pow_right {n = 2} two {i = k} {j = 6} few)

pub start_by_shift : (first page : ℕ) → IsFirstPage first → page ≤ 16 → first * 2 ^ page % 4294967296 ≤ 4096
    → (first ≤ first * 2 ^ page % 4294967296) × (first * 2 ^ page % 4294967296 - first ≡ places_before first page)
start_by_shift first page (k, few, is) low small =
    let fits = shift-fits first page (first-few first (k, few, is)) low in
    let size : first * 2 ^ page ≡ 2 ^ k * 2 ^ page = ap (λ n. n * 2 ^ page) is in
    let starts : first * 2 ^ page % 4294967296 - 2 ^ k ≡ places_before (2 ^ k) page = start_by_size k page (first * 2 ^ page % 4294967296) few (fits ∙ size) small in
    let same : places_before (2 ^ k) page ≡ places_before first page = ap (λ n. places_before n page) (sym is) in
    let some : first * 1 ≤ first * 2 ^ page = mul-le-mul_left first (pow_pos page) in
    (omega (arith, some, fits), omega (arith, starts, same, is))

pub start_by_logarithm : (first page r : ℕ) → IsFirstPage first → page ≤ 16 → 4096 < first * 2 ^ page % 4294967296 → 2 ^ r ≤ first → first < 2 * 2 ^ r
    → (11 ≤ page + r) × (first ≤ (page + r - 11) * 4096) × ((page + r - 11) * 4096 - first ≡ places_before first page)
start_by_logarithm first page r (k, few, is) low large least most =
    let fits = shift-fits first page (first-few first (k, few, is)) low in
    let size : first * 2 ^ page ≡ 2 ^ k * 2 ^ page = ap (λ n. n * 2 ^ page) is in
    let same_r : r ≡ k = same_logarithm k r (omega (arith, is, least)) (omega (arith, is, most)) in
    let by = start_by_count k page (first * 2 ^ page % 4294967296) few (fits ∙ size) large in
    let same : places_before (2 ^ k) page ≡ places_before first page = ap (λ n. places_before n page) (sym is) in
    (omega (arith, by.0, same_r), omega (arith, by.2, same_r, is), omega (arith, by.1, same_r, is, same))

pub in_page_doubling : (first pages page index : ℕ) → IsFirstPage first → index < places_before first pages → index + first < 8192
    → 2 ^ page ≤ (index + first) / first → (index + first) / first < 2 * 2 ^ page → IsInPage first pages page index
in_page_doubling first pages page index (k, few, is) = subst
    (λ n. index < places_before n pages → index + n < 8192 → 2 ^ page ≤ (index + n) / n → (index + n) / n < 2 * 2 ^ page → IsInPage n pages page index)
    (sym is) (page_by_logarithm k pages page index few)

pub in_page_full : (first pages index r : ℕ) → IsFirstPage first → index < places_before first pages → 8192 ≤ index + first → 2 ^ r ≤ first → first < 2 * 2 ^ r
    → (r ≤ (index + first) / 4096 + 11) × IsInPage first pages ((index + first) / 4096 + 11 - r) index
in_page_full first pages index r (k, few, is) below large least most =
    let same_r : r ≡ k = same_logarithm k r (omega (arith, is, least)) (omega (arith, is, most)) in
    let in_page = page_by_division k pages index few (subst (λ n. index < places_before n pages) is below) (subst (λ n. 8192 ≤ index + n) is large) in
    (omega (arith, same_r, few), rw (is, same_r) in_page)

-- the place of a shard with an index in a page
pub is_place-from_index : (z : Shape) → IsShape z → (shard page index n : ℕ) → shard < z.lanes → IsInPage z.first_page z.pages page index → n ≡ place_at shard page (index - page_start z page) → (is_place z n ≡ true) × (shard_of n ≡ shard) × (index_of z n ≡ index)
is_place-from_index z ok shard page index n lane inside e =
    let low : page < 16 = omega (arith, ok.pages.1, inside.opened) in
    let small : index - page_start z page < 4096 = omega (arith, inside.ends, page_size-le z page) in
    let same_page : page_of n ≡ page = ap (λ m. page_of m) e ∙ page_of-place_at shard page (index - page_start z page) low small in
    let same_slot : slot_of n ≡ index - page_start z page = ap (λ m. slot_of m) e ∙ slot_of-place_at shard page (index - page_start z page) small in
    let starts : page_start z (page_of n) ≡ page_start z page = ap (λ m. page_start z m) same_page in (
      ap (λ m. is_place z m) e ∙ is_place-place_at z ok shard page (index - page_start z page) lane inside.opened inside.ends,
      ap (λ m. shard_of m) e ∙ shard_of-place_at shard page (index - page_start z page) low small,
      omega (arith, starts, same_slot, inside.starts),
    )
