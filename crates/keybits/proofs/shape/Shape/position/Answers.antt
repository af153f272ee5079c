use Rattle.std.proofs.Common.{◌≡◌, ◌*◌, ◌∙◌, ap, arith}
use Rattle.keybits.specs.Places.{shard_of}
use Rattle.keybits.specs.Shapes.{shard_places}
use Rattle.std.proofs.lemmas.Nat.{mul-le}
use Rattle.keybits.proofs.ShapeLemmas.{position_of-lt, shape_bounds, place_bounds}
use Rattle.keybits.proofs.shape.Shape.position.Goals as goal

pub returns-clause-below : goal.returns-clause-below
returns-clause-below c =
    let before : c.shard_of.result * c.shard_places.result ≡ shard_of c.args.place * shard_places c.args.self.now =
    ap (λ n. n * c.shard_places.result) c.shard_of.ensures ∙ ap (λ n. shard_of c.args.place * n) c.shard_places.ensures in
    omega (arith, position_of-lt c.args.self.now c.args.place c.requires.place)

pub overflow_mul-result : goal.overflow_mul-result
overflow_mul-result c =
    let few = (place_bounds c.args.self.now c.requires.shape c.args.place c.requires.place).shard in
    let small = (shape_bounds c.args.self.now c.requires.shape).shard.1 in
    let product = mul-le c.shard_of.result c.shard_places.result 64 44992 (omega (arith, few, c.shard_of.ensures)) (omega (arith, small, c.shard_places.ensures)) in
    omega (arith, product)
