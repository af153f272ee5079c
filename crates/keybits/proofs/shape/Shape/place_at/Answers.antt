use Rattle.std.proofs.Common.{◌≡◌, ◌+◌, ◌*◌, ◌/◌, ◌%◌, ◌<◌, ◌∙◌, ℕ, sym, ap, subst, arith}
use Rattle.std.proofs.lemmas.Nat.{div-add-mod', div_below}
use Rattle.keybits.specs.Places.{shard_of}
use Rattle.keybits.specs.Shapes.{shard_places, index_of}
use Rattle.keybits.proofs.ShapeLemmas.{position_of-injective, shape_bounds}
use Rattle.keybits.proofs.shape.Shape.place_at.Goals as goal

-- the parts of a position are those of its place
whole : (shard index places position same : ℕ) → shard ≡ position / places → index ≡ position % places → places ≡ same
    → shard * same + index ≡ position
whole shard index places position same quotient rest is =
    let before : shard * same ≡ position / places * places = ap (λ n. n * same) quotient ∙ ap (λ n. position / places * n) (sym is) in
    omega (arith, div-add-mod' position places)

pub shard_places-places-requires : goal.shard_places-places-requires
shard_places-places-requires c = c.requires.shape

pub overflow_cast-position : goal.overflow_cast-position
overflow_cast-position c = omega (arith, (shape_bounds c.args.self.now c.requires.shape).all)

pub nonzero_div-position : goal.nonzero_div-position
nonzero_div-position c = omega (arith, (shape_bounds c.args.self.now c.requires.shape).shard.0)

pub nonzero_rem-position : goal.nonzero_rem-position
nonzero_rem-position c = omega (arith, (shape_bounds c.args.self.now c.requires.shape).shard.0)

pub place_in_shard-requires-clause-shape : goal.place_in_shard-requires-clause-shape
place_in_shard-requires-clause-shape c = c.requires.shape

pub place_in_shard-requires-clause-shard : goal.place_in_shard-requires-clause-shard
place_in_shard-requires-clause-shard c =
    div_below c.args.position c.shard_places-places.result c.args.self.now.lanes
    (omega (arith, (shape_bounds c.args.self.now c.requires.shape).shard.0))
    (subst (λ (n : ℕ). c.args.position < c.args.self.now.lanes * n) (sym c.shard_places-places.ensures) c.requires.position)

pub returns-clause-place : goal.returns-clause-place
returns-clause-place c = c.place_in_shard.ensures.place

pub returns-clause-position : goal.returns-clause-position
returns-clause-position c =
    whole (shard_of c.place_in_shard.result) (index_of c.args.self.now c.place_in_shard.result) c.shard_places-places.result c.args.position
    (shard_places c.args.self.now) c.place_in_shard.ensures.shard c.place_in_shard.ensures.index c.shard_places-places.ensures

pub returns-clause-inverse : goal.returns-clause-inverse
returns-clause-inverse c place h same =
    position_of-injective c.args.self.now c.requires.shape c.place_in_shard.result place c.place_in_shard.ensures.place h
    (whole (shard_of c.place_in_shard.result) (index_of c.args.self.now c.place_in_shard.result) c.shard_places-places.result c.args.position
    (shard_places c.args.self.now) c.place_in_shard.ensures.shard c.place_in_shard.ensures.index c.shard_places-places.ensures ∙ sym same)
