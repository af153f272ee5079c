use Rattle.std.proofs.Common.{arith}
use Rattle.std.proofs.lemmas.Nat.{mul-le}
use Rattle.keybits.proofs.ShapeLemmas.{shape_bounds}
use Rattle.poolsteps.proofs.SlotLemmas.{row-small}
use Rattle.poolsteps.proofs.layout.stack_word.Goals as goal

pub overflow_mul-result : goal.overflow_mul-result
overflow_mul-result c = omega (arith, row-small c.args.shape.now c.requires.shape, c.slot_row.ensures)

pub overflow_add-result : goal.overflow_add-result
overflow_add-result c = omega (arith, row-small c.args.shape.now c.requires.shape, c.slot_row.ensures)

pub overflow_add-result-3 : goal.overflow_add-result-3
overflow_add-result-3 c =
    let few = (shape_bounds c.args.shape.now c.requires.shape).lanes in
    let low = c.requires.lanes in
    let before = mul-le c.args.shard c.args.shape.now.lanes 64 64 (omega (arith, low.0, few)) few in
    omega (arith, row-small c.args.shape.now c.requires.shape, c.slot_row.ensures, before, low.1, few)
