use Rattle.std.proofs.Common.{arith}
use Rattle.std.proofs.lemmas.Nat.{mul-le}
use Rattle.keybits.proofs.ShapeLemmas.{shape_bounds}
use Rattle.keybits.proofs.shape.Shape.all_places.Goals as goal

pub overflow_mul-result : goal.overflow_mul-result
overflow_mul-result c =
    let bounds = shape_bounds c.args.self.now c.requires in
    let product = mul-le c.args.self.now.lanes c.shard_places.result 64 44992 bounds.lanes (omega (arith, bounds.shard, c.shard_places.ensures)) in
    omega (arith, product)
