-- What is common to all that a lane does between two views.
use Rattle.std.specs.Prelude.{◌≡◌, ◌≢◌, ℕ, Bool, false, List}
use Rattle.std.specs.List.{All}
use Rattle.keybits.specs.declared.shape.Shape.{Shape}
use Rattle.seqpool.specs.declared.act.Act.{Act}
use Rattle.seqpool.specs.Pool.{touches}
use Rattle.poolsteps.specs.declared.view.View.{View}
use Rattle.poolsteps.specs.Views.{the_lane, status_of, known_of}
use Rattle.seatcalls.specs.Acted.{Acted}

-- between two views the lane made these acts, and touched the slots of no places but these
pub record Passes (z : Shape) (at : ℕ → Bool) (made : List Act) (v w : View) : Type 0 where
  pub acted : Acted z made v w
  pub deeds : (p number : ℕ) → at p ≡ false → status_of (the_lane w) p number ≡ status_of (the_lane v) p number
  pub cells : (p : ℕ) → at p ≡ false → known_of (the_lane w) p ≡ known_of (the_lane v) p

-- each of these acts is of the one place
abbrev pub OnlyAt : ℕ → List Act → Type 0
OnlyAt place = All (λ act. (p : ℕ) → p ≢ place → touches act p ≡ false)
