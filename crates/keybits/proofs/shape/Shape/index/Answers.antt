use Rattle.std.proofs.Common.{◌≡◌, ◌∙◌, ap, arith}
use Rattle.keybits.specs.Places.{page_of}
use Rattle.keybits.specs.Shapes.{page_start}
use Rattle.keybits.proofs.ShapeLemmas.{index_of-lt, shape_bounds}
use Rattle.keybits.proofs.shape.Shape.index.Goals as goal

pub returns-clause-below : goal.returns-clause-below
returns-clause-below c =
    let before : c.places_before.result ≡ page_start c.args.self.now (page_of c.args.place) =
    c.places_before.ensures ∙ ap (λ n. page_start c.args.self.now n) c.page_of.ensures in
    omega (arith, index_of-lt c.args.self.now c.args.place c.requires.place)

pub overflow_add-result : goal.overflow_add-result
overflow_add-result c =
    let before : c.places_before.result ≡ page_start c.args.self.now (page_of c.args.place) =
    c.places_before.ensures ∙ ap (λ n. page_start c.args.self.now n) c.page_of.ensures in
    omega (arith, index_of-lt c.args.self.now c.args.place c.requires.place, (shape_bounds c.args.self.now c.requires.shape).shard, before, c.slot_of.ensures)
