use Rattle.std.proofs.Common.{arith}
use Rattle.keybits.proofs.ShapeLemmas.{shape_bounds}
use Rattle.poolsteps.proofs.layout.slot_row.Goals as goal

pub overflow_add-result : goal.overflow_add-result
overflow_add-result c = let bounds = shape_bounds c.args.shape.now c.requires in omega (arith, bounds.all, bounds.lanes, c.all_places.ensures)
