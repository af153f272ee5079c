use Rattle.std.proofs.Common.{◌≡◌, ◌+◌, ◌*◌, sym, ap, ◌∙◌, subst, arith}
use Rattle.std.proofs.lemmas.Nat.{mul-le}
use Rattle.keybits.specs.Places.{number_of, shard_of}
use Rattle.keybits.specs.Shapes.{index_of}
use Rattle.keybits.proofs.ShapeLemmas.{shape_bounds}
use Rattle.freelists.specs.Shards.{IsShardOf, IsOwn}
use Rattle.freelists.proofs.ShardLemmas.{own_from_number, position_below, from_position, own_at_index}
use Rattle.freelists.proofs.shard.Shard.place.Goals as goal
use Rattle.freelists.proofs.shard.Shard.place.Goals.{After-of_number}

pub place_at-requires-clause-position : goal.place_at-requires-clause-position
place_at-requires-clause-position c =
    position_below c.args.self.now.shape c.from.result c.args.index c.shard_places.result
    (subst (λ n. IsShardOf n c.args.self.now.shape) (sym c.from.ensures) c.requires.shard) c.requires.index c.shard_places.ensures

parts : (c : After-of_number) → (shard_of c.place_at.result ≡ c.args.self.now.number) × (index_of c.args.self.now.shape c.place_at.result ≡ c.args.index)
parts c = from_position c.args.self.now.shape c.args.self.now.number c.args.index c.shard_places.result c.place_at.result
    c.requires.index c.shard_places.ensures c.place_at.ensures.place
    (c.place_at.ensures.position ∙ ap (λ n. n * c.shard_places.result + c.args.index) c.from.ensures)

own : (c : After-of_number) → IsOwn c.args.self.now.number c.args.self.now.shape c.of_number.result
own c = own_from_number c.args.self.now.shape c.args.self.now.number c.place_at.result c.of_number.result c.place_at.ensures.place (parts c).0
    c.of_number.ensures.shard c.of_number.ensures.page c.of_number.ensures.slot

index : (c : After-of_number) → index_of c.args.self.now.shape (number_of c.of_number.result) ≡ c.args.index
index c = ap (λ n. index_of c.args.self.now.shape n) c.of_number.ensures.numbered ∙ (parts c).1

pub returns-clause-own : goal.returns-clause-own
returns-clause-own c = own c

pub returns-clause-index : goal.returns-clause-index
returns-clause-index c = index c

pub returns-clause-inverse : goal.returns-clause-inverse
returns-clause-inverse c place is_own same =
    own_at_index c.args.self.now.shape c.args.self.now.number c.of_number.result place c.requires.shard (own c) is_own (index c ∙ sym same)

pub overflow_mul-before : goal.overflow_mul-before
overflow_mul-before c =
    let bounds = shape_bounds c.args.self.now.shape c.requires.shard.shape in
    let product = mul-le c.from.result c.shard_places.result 64 44992 (omega (arith, c.from.ensures, c.requires.shard.shard_below, bounds.lanes)) (omega (arith, bounds.shard, c.shard_places.ensures)) in
    omega (arith, product)
