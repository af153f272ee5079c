-- Each place that comes off the list is one of the shape.
use Rattle.std.proofs.Common.{◌++◌, ◌∷◌, [], ap, ◌∙◌, arith}
use Rattle.keybits.specs.Shapes.{is_place}
use Rattle.keybits.proofs.ShapeLemmas.{page_size-le}
use Rattle.freelists.specs.Queues.{FreePlaces}
use Rattle.shardpool.proofs.count.Lists.{list-split, list-holds, list-blanks}
use Rattle.shardpool.proofs.census.mark_list.Goals as goal

pub number-requires-clause-slot : goal.number-requires-clause-slot
number-requires-clause-slot c =
    let e = c.in-Some.ensures in
    omega (arith, e.away.own.in_page, page_size-le c.pop.new.self.shape c.in-Some.place.page)

pub mark-requires-clause-place : goal.mark-requires-clause-place
mark-requires-clause-place c =
    let v = c.loop-place.invariant in
    ap (is_place c.args.shape.now) c.number.ensures
    ∙ c.requires.own c.in-Some.place (list-holds c.args.free.now.own v.0 c.loop-place.free.own c.pop.new.self.own c.in-Some.place v.1 c.in-Some.ensures.first)

pub loop-place-preserved : goal.loop-place-preserved
loop-place-preserved c =
    let v = c.loop-place.invariant in (
      v.0 ++ c.in-Some.place ∷ [],
      list-split c.args.free.now.own v.0 c.loop-place.free.own c.pop.new.self.own c.in-Some.place v.1 c.in-Some.ensures.first,
      list-blanks c.args.shape.now v.0 c.in-Some.place c.number.result c.args.words.now c.loop-place.words c.mark.new.words c.number.ensures v.2 c.mark.ensures,
      ap (λ (f : FreePlaces). f.chain) c.in-Some.ensures.rest ∙ v.3,
    )
