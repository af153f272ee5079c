use Rattle.std.proofs.Common.{arith}
use Rattle.keybits.proofs.ShapeLemmas.{shape_bounds}
use Rattle.poolsteps.proofs.SlotLemmas.{in-row}
use Rattle.keybits.proofs.ShapeLemmas.{place_bounds}
use Rattle.poolsteps.proofs.layout.slot_start.Goals as goal

pub returns-clause-inside : goal.returns-clause-inside
returns-clause-inside c = let low = in-row c.args.shape.now c.args.place c.requires.place in omega (arith, low, c.shard_of.ensures, c.requires.position)

pub returns-clause-small : goal.returns-clause-small
returns-clause-small c =
    let low = in-row c.args.shape.now c.args.place c.requires.place in
    let bounds = shape_bounds c.args.shape.now c.requires.shape in
    omega (arith, low, bounds.all, bounds.lanes, c.shard_of.ensures, c.requires.position)

pub overflow_add-result : goal.overflow_add-result
overflow_add-result c =
    let bounds = place_bounds c.args.shape.now c.requires.shape c.args.place c.requires.place in
    omega (arith, bounds.position, bounds.all, bounds.shard, c.requires.position, c.shard_of.ensures)
