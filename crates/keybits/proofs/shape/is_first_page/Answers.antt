use Rattle.std.proofs.Common.{◌≡◌, ◌↔◌, ℕ, ◌^◌, ◌<◌, ◌≤◌, Bool, true, sym, subst, arith}
use Rattle.std.proofs.lemmas.Bool.{leb-true}
use Rattle.std.proofs.Math.Nat.{pow-le-pow_right}
use Rattle.keybits.proofs.ShapeLemmas.{small_power}
use Rattle.keybits.proofs.shape.is_first_page.Goals as goal

pub returns-then-size-le-LARGEST_FIRST_PAGE : goal.returns-then-size-le-LARGEST_FIRST_PAGE
returns-then-size-le-LARGEST_FIRST_PAGE c =
    subst (λ (b : Bool). (b ≡ true) ↔ ((k : ℕ) × (k ≤ 6) × (c.args.size ≡ 2 ^ k))) (sym c.is_power_of_two.ensures) (small_power c.args.size c.if-size-le-LARGEST_FIRST_PAGE.true)

pub returns-else-size-le-LARGEST_FIRST_PAGE : goal.returns-else-size-le-LARGEST_FIRST_PAGE
returns-else-size-le-LARGEST_FIRST_PAGE c = (
  λ h. absurd (omega (arith, leb-true c.args.size 64 h)),
  λ p. let two : 0 < 2 = omega arith in
      let small : 2 ^ p.0 ≤ 64 = pow-le-pow_right {n = 2} two {i = p.0} {j = 6} p.1 in
      absurd (omega (arith, p.2)),
)
