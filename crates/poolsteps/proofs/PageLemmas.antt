-- The rows of pages: which row is that of a place, and what it says of it.
use Rattle.std.proofs.Common.{◌≡◌, ⊎_elim, ℕ, zero, suc, ◌+◌, ◌*◌, ◌/◌, ◌%◌, ◌<◌, Bool, true, false, cond, nat_lt, List, [], ◌∷◌, ◌++◌, length, slice_index_or, refl, ap, sym, ◌∙◌, subst, arith}
use Rattle.std.proofs.lemmas.List.{length_push, get_or_push, get_or_append_left}
use Rattle.std.proofs.lemmas.Bool.{cases_Bool, ltb-true, lt-ltb}
use mathlib.Core.Logic.{dite}
use native.Mathlib.Decide.{ℕ_discrete}
use Rattle.keybits.specs.declared.shape.Shape.{Shape}
use Rattle.keybits.specs.Places.{shard_of, page_of, slot_of}
use Rattle.keybits.specs.Shapes.{page_size, is_place}
use Rattle.keybits.specs.declared.step.Word.TheVariants.{Life}
use Rattle.keybits.proofs.ShapeLemmas.{is_place-parts, is_place-from_parts}
use Rattle.poolsteps.specs.declared.layout.PageRow.{PageRow}
use Rattle.poolsteps.specs.declared.find.TheConstants.{LIVES_START}
use Rattle.poolsteps.specs.declared.grid.Spot.{Spot}
use Rattle.poolsteps.specs.Grids.{IsSpot}
use Rattle.poolsteps.specs.Layout.{index_in, slot_start, page_row, page_rows}

pub rows-length : (z : Shape) (count : ℕ) → length (page_rows z count) ≡ count
rows-length z zero = refl
rows-length z (suc count) = omega (arith, length_push (page_rows z count) (page_row z count), rows-length z count)

pub rows-more : (z : Shape) (count : ℕ) → page_rows z count ++ page_row z count ∷ [] ≡ page_rows z (count + 1)
rows-more z count = let next : suc count ≡ count + 1 = omega arith in ap (page_rows z) next

pub row-at : (z : Shape) (count page : ℕ) (other : PageRow) → page < count → slice_index_or (page_rows z count) page other ≡ page_row z page
row-at z zero page other below = absurd (omega arith)
row-at z (suc count) page other below = dite (ℕ_discrete page count)
    (λ last. get_or_push (page_rows z count) (page_row z count) other page (rows-length z count ∙ sym last) ∙ ap (page_row z) (sym last))
    (λ earlier.
    get_or_append_left (page_rows z count) (page_row z count ∷ []) other page (omega (arith, rows-length z count))
    ∙ row-at z count page other (omega arith))

-- the row that stands for a page of the pool among its rows
pub row-found : (z : Shape) (rows : List PageRow) → rows ≡ page_rows z (16 * z.lanes) → (page : ℕ) (other row : PageRow) → page < length rows
    → row ≡ slice_index_or rows page other → row ≡ page_row z page
row-found z rows are page other row below is =
    let count = ap length are ∙ rows-length z (16 * z.lanes) in
    is ∙ (ap (λ (list : List PageRow). slice_index_or list page other) are ∙ row-at z (16 * z.lanes) page other (omega arith))

-- the row of a page, by whether the shape has it
abbrev row-of : Shape → ℕ → Bool → PageRow
row-of z page has = cond has
    record { places = page_size z (page % 16); start = slot_start z (4096 * page) }
    record { places = 0; start = 0 }

-- how many places the row of a page has, by whether the shape has the page
row-places : (z : Shape) (page : ℕ) (has : Bool) → nat_lt (page % 16) z.pages ≡ has → (page_row z page).places ≡ cond has (page_size z (page % 16)) 0
row-places z page true is = ap (λ (b : Bool). (row-of z page b).places) is
row-places z page false is = ap (λ (b : Bool). (row-of z page b).places) is

-- a number is that of a place where its page is one of the pool's, and its slot one of the page's
pub found-place : (z : Shape) (place : ℕ) → place / 4096 < 16 * z.lanes → place % 4096 < (page_row z (place / 4096)).places → is_place z place ≡ true
found-place z place page slot = ⊎_elim
    (λ (has : nat_lt (page_of place) z.pages ≡ true).
    let places = row-places z (place / 4096) true has in
    is_place-from_parts z place (omega arith) (ltb-true (page_of place) z.pages has) (subst (λ (n : ℕ). slot_of place < n) places slot))
    (λ (none : nat_lt (page_of place) z.pages ≡ false). let places = row-places z (place / 4096) false none in absurd (omega arith))
    (cases_Bool (nat_lt (page_of place) z.pages))

pub place-found : (z : Shape) (place : ℕ) → is_place z place ≡ true → (place / 4096 < 16 * z.lanes) × (place % 4096 < (page_row z (place / 4096)).places)
place-found z place inside =
    let parts = is_place-parts z place inside in
    let places = row-places z (place / 4096) true (lt-ltb (page_of place) z.pages parts.1) in
    (omega (arith, parts.0), subst (λ (n : ℕ). slot_of place < n) (sym places) parts.2)

-- the row of a page, which tells where each of its places stands
pub row-spot : (z : Shape) (place : ℕ) (row : PageRow) → is_place z place ≡ true → row ≡ page_row z (place / 4096)
    → row.start + place % 4096 ≡ slot_start z place
row-spot z place row inside is =
    let first : ℕ = 4096 * (place / 4096) in
    let has : row ≡ row-of z (place / 4096) true = is ∙ ap (row-of z (place / 4096)) (lt-ltb (page_of place) z.pages (is_place-parts z place inside).1) in
    let shard : shard_of first ≡ shard_of place = omega arith in
    let page : page_of first ≡ page_of place = omega arith in
    let slot : slot_of first ≡ 0 = omega arith in
    rw (has, shard, page, slot) (omega arith)

-- where the lifecycle word of a place stands
pub life-at : {z : Shape} {spot : Spot} {place : ℕ} → IsSpot z spot place → LIVES_START + spot.start ≡ index_in z (Life place)
life-at at = ap (λ (n : ℕ). LIVES_START + n) at.start
