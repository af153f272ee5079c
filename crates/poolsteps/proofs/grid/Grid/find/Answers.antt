use Rattle.std.proofs.Common.{◌/◌, ◌%◌, ◌*◌, ◌<◌, length, Option, IsSome, ap, sym, ◌∙◌, subst, arith}
use Rattle.std.proofs.lemmas.Bool.{ltb-true, ltb-false}
use Rattle.keybits.specs.declared.shape.Shape.{Shape}
use Rattle.poolsteps.specs.declared.grid.Spot.{Spot}
use Rattle.poolsteps.specs.declared.layout.PageRow.{PageRow}
use Rattle.poolsteps.proofs.PageLemmas.{rows-length, row-found, found-place, place-found}
use Rattle.poolsteps.proofs.grid.Grid.find.Goals as goal

-- a number beyond the last page is that of no place
pub returns-in_err-page-clause-none : goal.returns-in_err-page-clause-none
returns-in_err-page-clause-none g c =
    let grid = c.args.self.now in
    let z : Shape = grid.shape in
    let rows = ap length (c.deref.ensures.value ∙ grid.pages_are) ∙ rows-length z (16 * z.lanes) in
    let beyond = ltb-false (c.args.place / 4096) (length c.deref.result.now) (sym c.in_err-page.ensures.lookup.0) in (
      λ some. absurd (cc (subst (λ (found : Option Spot). IsSome found) c.from_residual.ensures some)),
      λ inside. absurd (omega (arith, (place-found z c.args.place inside).0)),
    )

-- the row of the number's page
pub spot_in-requires-clause-page : goal.spot_in-requires-clause-page
spot_in-requires-clause-page g c =
    let grid = c.args.self.now in
    let look = c.in_ok-page.ensures.lookup in
    let below = ltb-true (c.args.place / 4096) (length c.deref.result.now) (sym look.0) in
    row-found grid.shape c.deref.result.now (c.deref.ensures.value ∙ grid.pages_are) (c.args.place / 4096) _ c.in_ok-page.page.now below look.1

pub spot_in-requires-clause-place : goal.spot_in-requires-clause-place
spot_in-requires-clause-place g c =
    let grid = c.args.self.now in
    let z : Shape = grid.shape in
    let look = c.in_ok-page.ensures.lookup in
    let rows = ap length (c.deref.ensures.value ∙ grid.pages_are) ∙ rows-length z (16 * z.lanes) in
    let below = ltb-true (c.args.place / 4096) (length c.deref.result.now) (sym look.0) in
    let row = row-found z c.deref.result.now (c.deref.ensures.value ∙ grid.pages_are) (c.args.place / 4096) _ c.in_ok-page.page.now below look.1 in
    found-place z c.args.place (omega arith) (subst (λ (row : PageRow). c.args.place % 4096 < row.places) row c.if-place-page.true)

pub returns-else-place-page-clause-none : goal.returns-else-place-page-clause-none
returns-else-place-page-clause-none g c =
    let grid = c.args.self.now in
    let z : Shape = grid.shape in
    let look = c.in_ok-page.ensures.lookup in
    let below = ltb-true (c.args.place / 4096) (length c.deref.result.now) (sym look.0) in
    let row = row-found z c.deref.result.now (c.deref.ensures.value ∙ grid.pages_are) (c.args.place / 4096) _ c.in_ok-page.page.now below look.1 in
    (λ some. absurd (cc some), λ inside. absurd (omega (arith, (place-found z c.args.place inside).1, ap (λ (row : PageRow). row.places) row, c.if-place-page.false)))
