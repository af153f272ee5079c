-- The rows of a pool before any act.
use Rattle.std.proofs.Common.{◌≡◌, ℕ, ◌+◌, ◌*◌, ◌/◌, ◌<◌, List, [], ◌∷◌, ◌++◌, length, get_or, sym, ap, ◌∙◌, arith, inl, inr}
use Rattle.std.proofs.lemmas.Bool.{cases_Bool, cases_eq}
use Rattle.std.proofs.lemmas.List.{get_or_push, get_or_append_left, length_push}
use Rattle.std.proofs.lemmas.Nat.{div-mul-add}
use mathlib.Core.Path.{fun_ext}
use Rattle.keybits.specs.declared.shape.Shape.{Shape}
use Rattle.keybits.specs.Places.{shard_of}
use Rattle.keybits.specs.Shapes.{is_place, index_of, position_of, shard_places, all_places}
use Rattle.keybits.proofs.ShapeLemmas.{index_of-lt, position_of-lt}
use Rattle.seqpool.specs.declared.row.Row.{Row}
use Rattle.seqpool.specs.declared.row.Standing.TheVariants.{With}
use Rattle.seqpool.specs.Pool.{fresh}
use Rattle.seqpool.specs.Rows.{spot_of, no_row, pool_of}
use Rattle.seqpool.proofs.Rows.{pool-at, pool-outside}

abbrev pub first_row : ℕ → Row
first_row lane = record { generation = 1; standing = With lane }

-- each row says that the place is with the lane of its shard, where a shard has so many places
abbrev pub AreFresh : ℕ → List Row → Type 0
AreFresh places rows = (k : ℕ) → k < length rows → get_or rows k no_row ≡ first_row (k / places)

pub no-rows : (places : ℕ) → AreFresh places []
no-rows places k below = absurd (omega arith)

pub more-rows : (places : ℕ) (rows : List Row) (n : ℕ) → length rows ≡ n → AreFresh places rows → AreFresh places (rows ++ first_row (n / places) ∷ [])
more-rows places rows n size before k below = elim (cases_eq k n) [
  | inl same ↦ get_or_push rows (first_row (n / places)) no_row k (size ∙ sym same) ∙ ap (λ (m : ℕ). first_row (m / places)) (sym same)
  | inr other ↦ let short : k < length rows = omega (arith, length_push rows (first_row (n / places))) in
      get_or_append_left rows (first_row (n / places) ∷ []) no_row k short ∙ before k short
]

shard-of-position : (shard places index : ℕ) → index < places → (shard * places + index) / places ≡ shard
shard-of-position shard places index below = div-mul-add shard places index below

pub fresh-rows : (z : Shape) (rows : List Row) → length rows ≡ all_places z → AreFresh (shard_places z) rows → pool_of z rows ≡ fresh
fresh-rows z rows size each = fun_ext (λ place. elim (cases_Bool (is_place z place)) [
  | inl is ↦
      let row = each (position_of z place) (omega (arith, position_of-lt z place is)) in
      let shard = shard-of-position (shard_of place) (shard_places z) (index_of z place) (index_of-lt z place is) in
      pool-at z rows place is ∙ (ap spot_of row ∙ ap (λ (n : ℕ). spot_of (first_row n)) shard)
  | inr isnt ↦ pool-outside z rows place isnt
])
