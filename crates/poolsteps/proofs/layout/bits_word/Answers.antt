use Rattle.std.proofs.Common.{arith}
use Rattle.std.proofs.lemmas.Nat.{mul-le}
use Rattle.std.proofs.lemmas.Bool.{and_from, lt-ltb}
use Rattle.keybits.proofs.ShapeLemmas.{shape_bounds}
use Rattle.poolsteps.specs.Layout.{row_count}
use Rattle.poolsteps.proofs.LayoutLemmas.{bits-below}
use Rattle.poolsteps.proofs.SlotLemmas.{row-small}
use Rattle.poolsteps.proofs.layout.bits_word.Goals as goal

pub overflow_mul-result : goal.overflow_mul-result
overflow_mul-result c = omega (arith, row-small c.args.shape.now c.requires.shape, c.slot_row.ensures)

pub overflow_add-result : goal.overflow_add-result
overflow_add-result c = omega (arith, row-small c.args.shape.now c.requires.shape, c.slot_row.ensures)

pub overflow_add-result-2 : goal.overflow_add-result-2
overflow_add-result-2 c =
    let few = (shape_bounds c.args.shape.now c.requires.shape).lanes in
    let square = mul-le c.args.shape.now.lanes c.args.shape.now.lanes 64 64 few few in
    omega (arith, row-small c.args.shape.now c.requires.shape, c.slot_row.ensures, square)

pub overflow_add-result-3 : goal.overflow_add-result-3
overflow_add-result-3 c =
    let few = (shape_bounds c.args.shape.now c.requires.shape).lanes in
    let square = mul-le c.args.shape.now.lanes c.args.shape.now.lanes 64 64 few few in
    let low = c.requires.row in
    let rows = mul-le c.args.shard c.row_count.result 64 1024 (omega (arith, few, low.0)) (omega (arith, c.row_count.ensures, c.requires.shape.pages.1)) in
    omega (arith, row-small c.args.shape.now c.requires.shape, c.slot_row.ensures, square, rows, low.1, c.requires.shape.pages.1)

pub returns-clause-inside : goal.returns-clause-inside
returns-clause-inside c =
    let z = c.args.shape.now in
    let low = c.requires.row in
    let is = c.row_count.ensures in
    let rows = c.slot_row.ensures in
    let below = bits-below z c.args.shard c.args.row (and_from _ _ (lt-ltb c.args.shard z.lanes low.0) (lt-ltb c.args.row (row_count z) low.1)) in
    rw (is, rows) below
