use Rattle.std.proofs.Common.{arith}
use Rattle.std.proofs.lemmas.Nat.{mul-le}
use Rattle.keybits.proofs.ShapeLemmas.{shape_bounds}
use Rattle.poolsteps.proofs.SlotLemmas.{row-small}
use Rattle.poolsteps.proofs.layout.word_count.Goals as goal

pub overflow_mul-result : goal.overflow_mul-result
overflow_mul-result c = omega (arith, row-small c.args.shape.now c.requires, c.slot_row.ensures)

pub overflow_add-result : goal.overflow_add-result
overflow_add-result c = omega (arith, row-small c.args.shape.now c.requires, c.slot_row.ensures)

pub overflow_add-result-2 : goal.overflow_add-result-2
overflow_add-result-2 c =
    let few = (shape_bounds c.args.shape.now c.requires).lanes in
    let square = mul-le c.args.shape.now.lanes c.args.shape.now.lanes 64 64 few few in
    omega (arith, row-small c.args.shape.now c.requires, c.slot_row.ensures, square)

pub overflow_add-result-3 : goal.overflow_add-result-3
overflow_add-result-3 c =
    let few = (shape_bounds c.args.shape.now c.requires).lanes in
    let square = mul-le c.args.shape.now.lanes c.args.shape.now.lanes 64 64 few few in
    let rows = mul-le c.args.shape.now.lanes c.row_count.result 64 1024 few (omega (arith, c.row_count.ensures, c.requires.pages.1)) in
    omega (arith, row-small c.args.shape.now c.requires, c.slot_row.ensures, square, rows)
