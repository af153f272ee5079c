-- Two proofs that a shape is within its limits are the same.
use Rattle.std.specs.Prelude.{◌≡◌, ℕ, ◌<◌, ◌≤◌, ◌^◌}
use Rattle.std.specs.Coded.{×_prop, le_prop, Coded-set, coded_ℕ}
use mathlib.Core.HLevel.{is_prop→PathP}
use mathlib.Core.Logic.{inl, inr}
use native.Mathlib.Omega.{arith}
use native.Mathlib.Nat.{le_antisymm}
use lib.Pow.{pow-lt}
use Rattle.std.proofs.lemmas.Bool.{cases_lt}
use Rattle.keybits.specs.declared.shape.Shape.{Shape}
use Rattle.keybits.specs.Shapes.{IsShape}

up_to : (a b : ℕ) → 2 ^ a ≤ 2 ^ b → a ≤ b
up_to a b below = elim (cases_lt b a) [ inl less ↦ let powers : 2 ^ b < 2 ^ a = pow-lt less in absurd (omega arith) | inr other ↦ other ]

same_power : (j k : ℕ) → 2 ^ j ≡ 2 ^ k → j ≡ k
same_power j k same = le_antisymm (up_to j k (omega arith)) (up_to k j (omega arith))

power_prop : (n : ℕ) → IsProp ((k : ℕ) × (k ≤ 6) × (n ≡ 2 ^ k))
power_prop n a b =
    let e : a.0 ≡ b.0 = same_power a.0 b.0 (omega (arith, a.2, b.2)) in
    λ i. (
      e i,
      is_prop→PathP (λ i. e i ≤ 6) (λ i. le_prop) a.1 b.1 i,
      is_prop→PathP (λ i. n ≡ 2 ^ (e i)) (λ i. Coded-set coded_ℕ n (2 ^ (e i))) a.2 b.2 i,
    )

pub IsShape-prop : (z : Shape) → IsProp (IsShape z)
IsShape-prop z s t = λ i. record {
  lanes = ×_prop le_prop le_prop s.lanes t.lanes i;
  first_page = power_prop z.first_page s.first_page t.first_page i;
  pages = ×_prop le_prop le_prop s.pages t.pages i;
  generations = le_prop s.generations t.generations i;
  tag = le_prop s.tag t.tag i;
  guests = le_prop s.guests t.guests i;
}
