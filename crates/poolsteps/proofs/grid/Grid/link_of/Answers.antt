use Rattle.std.proofs.Common.{arith}
use Rattle.poolsteps.proofs.SlotLemmas.{row-small, in-row}
use Rattle.poolsteps.proofs.grid.Grid.link_of.Goals as goal

pub overflow_add-result : goal.overflow_add-result
overflow_add-result g c =
    let grid = c.args.self.now in
    let spot = c.requires in
    omega (arith, grid.links_are, row-small grid.shape grid.checked, spot.start, in-row grid.shape c.args.spot.place spot.inside)
