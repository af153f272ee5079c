-- Rows and the pool that they stand for.
use Rattle.std.proofs.Common.{◌≡◌, ◌≢◌, ℕ, ◌<◌, true, false, cond, ◌==◌, List, length, get_or, set, refl, sym, ap, ◌∙◌, subst, eq-eqb, ne_eqb, get_or-set_same, get_or-set_other, inl, inr}
use Rattle.std.proofs.lemmas.Bool.{cases_Bool}
use mathlib.Core.Path.{fun_ext}
use mathlib.Core.Logic.{dite}
use native.Mathlib.Decide.{ℕ_discrete}
use Rattle.keybits.specs.declared.shape.Shape.{Shape}
use Rattle.keybits.specs.Shapes.{IsShape, is_place, position_of}
use Rattle.keybits.proofs.ShapeLemmas.{position_of-injective}
use Rattle.seqpool.specs.declared.act.Act.{Act}
use Rattle.seqpool.specs.declared.row.Row.{Row}
use Rattle.seqpool.specs.Pool.{Spot, Pool, touches, changed, after, fresh}
use Rattle.seqpool.specs.Rows.{spot_of, no_row, pool_of, with_spot}
use Rattle.seqpool.proofs.Growth.{after-here, after-else}

module _ (z : Shape) where
  -- a place's row
  pub pool-at : (rows : List Row) (place : ℕ) → is_place z place ≡ true → pool_of z rows place ≡ spot_of (get_or rows (position_of z place) no_row)
  pool-at rows place is = ap (λ b. cond b (spot_of (get_or rows (position_of z place) no_row)) (fresh place)) is

  pub pool-outside : (rows : List Row) (place : ℕ) → is_place z place ≡ false → pool_of z rows place ≡ fresh place
  pool-outside rows place isnt = ap (λ b. cond b (spot_of (get_or rows (position_of z place) no_row)) (fresh place)) isnt

  -- a row that is written changes its place alone
  pub pool-set : (rows : List Row) (place other : ℕ) (row : Row) → IsShape z → is_place z place ≡ true → other ≢ place
      → pool_of z (set rows (position_of z place) row) other ≡ pool_of z rows other
  pool-set rows place other row checked is apart = elim (cases_Bool (is_place z other)) [
    | inl inside ↦ pool-at (set rows (position_of z place) row) other inside
        ∙ (ap spot_of (get_or-set_other rows (position_of z place) (position_of z other) row no_row
        (λ same. apart (position_of-injective z checked other place inside is same)))
        ∙ sym (pool-at rows other inside))
    | inr outside ↦ pool-outside (set rows (position_of z place) row) other outside ∙ sym (pool-outside rows other outside)
  ]

  -- an act that changes nothing
  pub no-row : (pool : Pool) (act : Act) → ((x : ℕ) → changed z.last_generation act (pool x) ≡ pool x) → pool ≡ after z act pool
  no-row pool act same = fun_ext (λ x. elim (cases_Bool (touches act x)) [
    | inl here ↦ sym (after-here z pool act x here ∙ same x)
    | inr gone ↦ sym (after-else z pool act x gone)
  ])

  -- a write of a row is a write of its spot
  pub put-row : (rows : List Row) (place position : ℕ) (row : Row) → IsShape z → is_place z place ≡ true → position ≡ position_of z place → position < length rows
      → pool_of z (set rows position row) ≡ with_spot (pool_of z rows) place (spot_of row)
  put-row rows place position row checked is at below = fun_ext (λ x. dite (ℕ_discrete x place)
      (λ here. subst (λ (p : ℕ). pool_of z (set rows position row) p ≡ with_spot (pool_of z rows) place (spot_of row) p) (sym here)
      (pool-at (set rows position row) place is
      ∙ (ap spot_of (ap (λ (n : ℕ). get_or (set rows position row) n no_row) (sym at) ∙ get_or-set_same rows position row no_row below)
      ∙ sym (ap (λ b. cond b (spot_of row) (pool_of z rows place)) (eq-eqb place place refl)))))
      (λ other. ap (λ (n : ℕ). pool_of z (set rows n row) x) at ∙ (pool-set rows place x row checked is other
      ∙ sym (ap (λ b. cond b (spot_of row) (pool_of z rows x)) (ne_eqb x place other)))))

  -- the act of one place is that write, of what it makes of the place
  pub one-spot : (pool : Pool) (act : Act) (place : ℕ) → ((x : ℕ) → touches act x ≡ (x == place))
      → with_spot pool place (changed z.last_generation act (pool place)) ≡ after z act pool
  one-spot pool act place of = fun_ext (λ x. dite (ℕ_discrete x place)
      (λ here. subst (λ (p : ℕ). with_spot pool place (changed z.last_generation act (pool place)) p ≡ after z act pool p) (sym here)
      (ap (λ b. cond b (changed z.last_generation act (pool place)) (pool place)) (eq-eqb place place refl)
      ∙ sym (after-here z pool act place (of place ∙ eq-eqb place place refl))))
      (λ other. ap (λ b. cond b (changed z.last_generation act (pool place)) (pool x)) (ne_eqb x place other)
      ∙ sym (after-else z pool act x (of x ∙ ne_eqb x place other))))

  -- an act of one place is made where the pool is written so
  pub made : (pool left : Pool) (act : Act) (place one : ℕ) (s : Spot) → ((x : ℕ) → touches act x ≡ (x == one)) → place ≡ one
      → s ≡ changed z.last_generation act (pool one) → left ≡ with_spot pool place s → left ≡ after z act pool
  made pool left act place one s of at is wrote =
      wrote ∙ (ap (λ (p : ℕ). with_spot pool p s) at ∙ (ap (with_spot pool one) is ∙ one-spot pool act one of))
