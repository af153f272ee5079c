use Rattle.std.proofs.Common.{arith}
use Rattle.keybits.proofs.ShapeLemmas.{shape_bounds}
use Rattle.poolsteps.proofs.SlotLemmas.{row-small}
use Rattle.poolsteps.proofs.layout.links_start.Goals as goal

pub returns-clause-small : goal.returns-clause-small
returns-clause-small c = let bounds = shape_bounds c.args.shape.now c.requires in omega (arith, bounds.all, bounds.lanes, c.slot_row.ensures)

pub overflow_add-result : goal.overflow_add-result
overflow_add-result c = omega (arith, row-small c.args.shape.now c.requires, c.slot_row.ensures)
