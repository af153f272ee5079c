use Rattle.std.proofs.Common.{refl, ◌∙◌, arith}
use Rattle.poolsteps.proofs.SlotLemmas.{rows-small, row-small, in-row}
use Rattle.poolsteps.proofs.grid.Grid.slot_in.Goals as goal

pub returns : goal.returns
returns g c = rw (c.requires.row, c.args.self.now.row_is, c.requires.spot.start) refl

pub overflow_mul-result : goal.overflow_mul-result
overflow_mul-result g c =
    let grid = c.args.self.now in
    let low = c.requires.number in
    let rows = rows-small grid.shape c.args.number c.args.row grid.checked (omega (arith, low)) (c.requires.row ∙ grid.row_is) in omega (arith, rows)

pub overflow_add-result : goal.overflow_add-result
overflow_add-result g c =
    let grid = c.args.self.now in
    let low = c.requires.number in
    let rows = rows-small grid.shape c.args.number c.args.row grid.checked (omega (arith, low)) (c.requires.row ∙ grid.row_is) in
    omega (arith, rows, row-small grid.shape grid.checked, c.requires.spot.start, in-row grid.shape c.args.spot.place c.requires.spot.inside)
