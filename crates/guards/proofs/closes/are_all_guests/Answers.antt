-- A number below the next is below this one, or this one's.
use Rattle.std.proofs.Common.{◌≡◌, ℕ, ◌+◌, ◌<◌, ⊎_elim, refl, subst, arith}
use Rattle.std.proofs.lemmas.Bool.{cases_lt}
use Rattle.guards.specs.Rows.{HasGuest}
use Rattle.guards.proofs.closes.are_all_guests.Goals as goal

pub returns-then-not-has_guest-clause-missing : goal.returns-then-not-has_guest-clause-missing
returns-then-not-has_guest-clause-missing g c = λ _ sum.
    (c.args.shape.now.lanes + c.loop-index.index, omega arith, omega (arith, sum), c.if-not-has_guest.ensures.hasnt refl)

pub loop-index-preserved : goal.loop-index-preserved
loop-index-preserved g c = λ number high low. ⊎_elim
    (λ below. c.loop-index.invariant number high below)
    (λ not_below. let here : c.args.shape.now.lanes + c.loop-index.index ≡ number = omega (arith, low, not_below) in
    subst (λ (n : ℕ). HasGuest c.args.guests.now n) here (c.if-not-has_guest.ensures.has refl))
    (cases_lt number (c.args.shape.now.lanes + c.loop-index.index))
