use Rattle.std.proofs.Common.{arith}
use Rattle.std.proofs.lemmas.Nat.{mul-le}
use Rattle.keybits.proofs.ShapeLemmas.{shape_bounds}
use Rattle.poolsteps.proofs.SlotLemmas.{row-small}
use Rattle.poolsteps.proofs.grid.Grid.stack_of.Goals as goal

pub overflow_add-stacks : goal.overflow_add-stacks
overflow_add-stacks g c = let grid = c.args.self.now in omega (arith, grid.links_are, grid.row_is, row-small grid.shape grid.checked)

pub overflow_add-result-2 : goal.overflow_add-result-2
overflow_add-result-2 g c =
    let grid = c.args.self.now in
    let few = (shape_bounds grid.shape grid.checked).lanes in
    let low = c.requires.lanes in
    let before = mul-le c.args.shard grid.shape.lanes 64 64 (omega (arith, low.0, few)) few in
    omega (arith, grid.links_are, grid.row_is, row-small grid.shape grid.checked, before, low.1, few)
