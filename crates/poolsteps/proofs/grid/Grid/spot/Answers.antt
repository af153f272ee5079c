use Rattle.std.proofs.Common.{◌/◌, ◌*◌, ◌<◌, length, ap, ◌∙◌, arith}
use Rattle.keybits.specs.declared.shape.Shape.{Shape}
use Rattle.poolsteps.proofs.PageLemmas.{rows-length, row-found, place-found}
use Rattle.poolsteps.proofs.grid.Grid.spot.Goals as goal

-- the page of a place of the pool has a row
pub index-requires : goal.index-requires
index-requires g c =
    let grid = c.args.self.now in
    let z : Shape = grid.shape in
    omega (arith, ap length grid.pages_are ∙ rows-length z (16 * z.lanes), (place-found z c.args.place c.requires).0)

pub spot_in-requires-clause-page : goal.spot_in-requires-clause-page
spot_in-requires-clause-page g c =
    let grid = c.args.self.now in
    let z : Shape = grid.shape in
    let below : c.args.place / 4096 < length grid.pages.items = omega (arith, ap length grid.pages_are ∙ rows-length z (16 * z.lanes), (place-found z c.args.place c.requires).0) in
    row-found z grid.pages.items grid.pages_are (c.args.place / 4096) c.index.result.now c.index.result.now below c.index.ensures
