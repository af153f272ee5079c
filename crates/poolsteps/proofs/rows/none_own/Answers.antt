-- Each round adds a place that is away.
use Rattle.std.proofs.Common.{◌≡◌, ◌++◌, ℕ, [], ◌∷◌, replicate, ap, ◌∙◌, arith}
use Rattle.std.proofs.lemmas.List.{replicate-append-replicate}
use Rattle.poolsteps.specs.declared.rows.Own.{Own}
use Rattle.poolsteps.specs.declared.rows.Own.TheVariants.{Away}
use Rattle.poolsteps.proofs.rows.none_own.Goals as goal

pub loop-preserved : goal.loop-preserved
loop-preserved g c =
    let pushed = c.push_reserved.ensures in
    let away : Own g.row.T.Denot = Away in
    (pushed.items ∙ (ap (λ row. row ++ away ∷ []) c.loop.invariant.0 ∙ replicate-append-replicate c.loop.counter 1 away), rw pushed.capacity c.loop.invariant.1)

pub returns : goal.returns
returns g c =
    let away : Own g.row.T.Denot = Away in
    let end : c.loop.counter ≡ c.args.count = omega arith in
    c.loop.invariant.0 ∙ ap (λ (n : ℕ). replicate n away) end
