-- A page's places come before those of the next.
use Rattle.std.proofs.Common.{◌≡◌, ◌+◌, min, ap, ◌∙◌, arith}
use Rattle.keybits.specs.Shapes.{page_start}
use Rattle.keybits.proofs.ShapeLemmas.{start_more, start-le, shape_bounds}
use Rattle.shardpool.proofs.census.places_of_pages.Goals as goal

pub overflow_add-places : goal.overflow_add-places
overflow_add-places c =
    let z = c.args.shape.now in
    let more = start_more z.first_page c.loop-page.page in
    let few = start-le z.first_page (c.loop-page.page + 1) z.pages (omega arith) in
    let most = (shape_bounds z c.requires).shard.1 in
    let before = c.loop-page.invariant in
    let size = c.page_size-places.ensures in
    omega (arith, more, few, most, before, size)

pub loop-page-preserved : goal.loop-page-preserved
loop-page-preserved c =
    let z = c.args.shape.now in
    let more = start_more z.first_page c.loop-page.page in
    let before = c.loop-page.invariant in
    let size = c.page_size-places.ensures in
    omega (arith, more, before, size)

pub returns : goal.returns
returns c =
    let z = c.args.shape.now in
    let most = c.loop-page.auto.page-end in
    let end : c.loop-page.page ≡ min c.args.pages z.pages = omega arith in
    c.loop-page.invariant ∙ ap (page_start z) end
