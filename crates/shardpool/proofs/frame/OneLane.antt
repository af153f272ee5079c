-- A pool of one lane.
use Rattle.std.proofs.Common.{arith, ◌≡◌, ℕ, ◌<◌, true, sym, ◌∙◌, subst}
use Rattle.keybits.specs.declared.shape.Shape.{Shape}
use Rattle.keybits.specs.Shapes.{callers, is_place}
use Rattle.seqpool.specs.Pool.{references_in, is_marked, pool_after}
use Rattle.poolsteps.specs.declared.view.View.{View}
use Rattle.poolsteps.specs.Views.{the_lane}
use Rattle.poolsteps.proofs.Solo.{only-lane}
use Rattle.shardpool.specs.LaneStates.{FitsSeat}

-- what the lane has seen are its own acts
pub solo : (z : Shape) (v : View) (number : ℕ) → FitsSeat z v number → callers z ≡ 1 → v.seen ≡ (the_lane v).mine
solo z v number seat one =
    let below : (the_lane v).lane < z.lanes = subst (λ (l : ℕ). l < z.lanes) seat.number_is seat.below in
    sym (seat.own ∙ only-lane z (the_lane v).lane v.seen one (omega (arith, below)) seat.legal)

-- and it has a reference to each marked key
pub solo-held : (z : Shape) (v : View) (number : ℕ) → FitsSeat z v number → callers z ≡ 1 → (place : ℕ) → is_place z place ≡ true
    → is_marked (pool_after z v.seen place).phase ≡ true → 0 < references_in (pool_after z v.seen place).phase number
solo-held z v number seat one place is marked =
    subst (λ (l : ℕ). 0 < references_in (pool_after z v.seen place).phase l) (sym seat.number_is) (seat.quiet one seat.idle place is marked)
