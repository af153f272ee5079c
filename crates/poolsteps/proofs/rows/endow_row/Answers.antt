-- Each round takes the next place out of the directory.
use Rattle.std.proofs.Common.{◌≡◌, ℕ, ◌+◌, ◌<◌, true, None, refl, ap, ◌∙◌, arith, length-set}
use Rattle.poolsteps.specs.Directory.{Directory}
use Rattle.poolsteps.specs.Objects.{spot_at}
use Rattle.poolsteps.specs.declared.rows.Own.{Own}
use Rattle.poolsteps.specs.declared.rows.Own.TheVariants.{Unused}
use Rattle.poolsteps.specs.Rows.{IsOwnOf, is_here, object_in}
use Rattle.poolsteps.proofs.own_rows.RowLemmas.{set-each}
use Rattle.poolsteps.proofs.rows.endow_row.Goals as goal

pub loop-index-preserved : goal.loop-index-preserved
loop-index-preserved g c =
    let before = c.loop-index.invariant in
    let first = c.args.directory.now in
    let row = c.loop-index.row.items in
    let i = c.loop-index.index in
    let here : Own g.row.T.Denot = Unused c.next.result in
    let at = ap (λ (d : Directory). d.at) before.directory in
    let next = ap (λ (d : Directory). d.next) before.directory in
    let spot : c.next.result.spot ≡ spot_at first.at (first.next + i) = λ k. record { directory = (c.next.ensures.0 ∙ at) k; index = (c.next.ensures.1 ∙ next) k } in
    let more : first.next + i + 1 ≡ first.next + (i + 1) = omega arith in
    record {
      wide = length-set row i here ∙ before.wide;
      directory = c.next.ensures.2 ∙ (ap (λ (d : Directory). record d { next = d.next + 1 }) before.directory ∙ ap (λ (n : ℕ). record first { next = n }) more);
      own = set-each (λ j o. IsOwnOf first.at (first.next + j) o) row i here spot (λ j z other there. before.own j z there);
      here = set-each (λ j o. j < i + 1 → (is_here o ≡ true) × (object_in o ≡ None)) row i here (λ low. (refl, refl)) (λ j z other there low. before.here j z there (omega (arith, low, other)));
    }

pub returns-clause-here : goal.returns-clause-here
returns-clause-here g c = λ index own there low. let end = c.loop-index-test.false in c.loop-index.invariant.here index own there (omega (arith, low, end))
