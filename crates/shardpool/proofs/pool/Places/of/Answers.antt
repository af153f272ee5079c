use Rattle.std.proofs.Common.{arith}
use Rattle.keybits.proofs.ShapeLemmas.{shape_bounds}
use Rattle.shardpool.proofs.pool.Places.of.Goals as goal

pub overflow_add-result-2 : goal.overflow_add-result-2
overflow_add-result-2 c = omega (arith, c.shard_places.ensures, (shape_bounds c.args.shape.now c.requires).shard.1)
