use Rattle.std.proofs.Common.{◌*◌, arith}
use Rattle.std.proofs.lemmas.Nat.{mul-le}
use Rattle.std.proofs.lemmas.Bool.{and_from, lt-ltb}
use Rattle.keybits.proofs.ShapeLemmas.{shape_bounds}
use Rattle.poolsteps.specs.Layout.{row_count}
use Rattle.poolsteps.proofs.LayoutLemmas.{bits-below}
use Rattle.poolsteps.proofs.SlotLemmas.{row-small}
use Rattle.poolsteps.proofs.grid.Grid.bits_of.Goals as goal

pub overflow_add-bits : goal.overflow_add-bits
overflow_add-bits g c = let grid = c.args.self.now in omega (arith, grid.links_are, grid.row_is, row-small grid.shape grid.checked)

pub overflow_add-bits-2 : goal.overflow_add-bits-2
overflow_add-bits-2 g c =
    let grid = c.args.self.now in
    let few = (shape_bounds grid.shape grid.checked).lanes in
    let square = mul-le grid.shape.lanes grid.shape.lanes 64 64 few few in
    omega (arith, grid.links_are, grid.row_is, row-small grid.shape grid.checked, square)

pub overflow_add-result-2 : goal.overflow_add-result-2
overflow_add-result-2 g c =
    let grid = c.args.self.now in
    let few = (shape_bounds grid.shape grid.checked).lanes in
    let square = mul-le grid.shape.lanes grid.shape.lanes 64 64 few few in
    let low = c.requires.row in
    let pages = grid.checked.pages.1 in
    let rows = mul-le c.args.shard (64 * grid.shape.pages) 64 1024 (omega (arith, few, low.0)) (omega (arith, pages)) in
    omega (arith, grid.links_are, grid.row_is, row-small grid.shape grid.checked, square, rows, low.1, pages)

pub returns-clause-inside : goal.returns-clause-inside
returns-clause-inside g c =
    let grid = c.args.self.now in
    let z = grid.shape in
    let low = c.requires.row in
    let links = grid.links_are in
    let row = grid.row_is in
    let below = bits-below z c.args.shard c.args.row (and_from _ _ (lt-ltb c.args.shard z.lanes low.0) (lt-ltb c.args.row (row_count z) low.1)) in
    omega (arith, links, row, below)
