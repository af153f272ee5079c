-- A number below the next is below this one, or this one.
use Rattle.std.proofs.Common.{◌≡◌, ℕ, ◌+◌, ◌<◌, ⊎_elim, refl, subst, arith}
use Rattle.std.proofs.lemmas.Bool.{cases_lt}
use Rattle.guards.specs.Rows.{HasLane}
use Rattle.guards.proofs.closes.are_all_lanes.Goals as goal

pub loop-number-preserved : goal.loop-number-preserved
loop-number-preserved g c = λ low below. ⊎_elim
    (λ before. c.loop-number.invariant low before)
    (λ not_before. let here : c.loop-number.number ≡ low = omega (arith, below, not_before) in
    subst (λ (n : ℕ). HasLane c.args.lanes.now n) here (c.if-not-has_lane.ensures.has refl))
    (cases_lt low c.loop-number.number)
