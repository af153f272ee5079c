use Rattle.std.proofs.Common.{◌≡◌, ◌+◌, ◌-◌, ◌*◌, ◌≤◌}
use Rattle.keybits.specs.Shapes.{page_start}
use Rattle.keybits.proofs.ShapeLemmas.{start_by_shift, start_by_logarithm}
use Rattle.keybits.proofs.shape.Shape.places_before.Goals as goal

pub returns-then-size-le-MOST_PAGE_PLACES : goal.returns-then-size-le-MOST_PAGE_PLACES
returns-then-size-le-MOST_PAGE_PLACES c =
    (start_by_shift c.args.self.now.first_page c.args.page c.requires.shape.first_page c.requires.page c.if-size-le-MOST_PAGE_PLACES.true).1

-- where pages have the most

by_logarithm : (c : goal.After-ilog2) → let first = c.args.self.now.first_page in let r = c.ilog2.result in
    (11 ≤ c.args.page + r) × (first ≤ (c.args.page + r - 11) * 4096) × ((c.args.page + r - 11) * 4096 - first ≡ page_start c.args.self.now c.args.page)
by_logarithm c =
    start_by_logarithm c.args.self.now.first_page c.args.page c.ilog2.result c.requires.shape.first_page c.requires.page c.if-size-le-MOST_PAGE_PLACES.false
    c.ilog2.ensures.power_le c.ilog2.ensures.next_power_gt

pub overflow_sub-result-else-size-le-MOST_PAGE_PLACES : goal.overflow_sub-result-else-size-le-MOST_PAGE_PLACES
overflow_sub-result-else-size-le-MOST_PAGE_PLACES c = (by_logarithm c).0

pub overflow_sub-result-else-size-le-MOST_PAGE_PLACES-2 : goal.overflow_sub-result-else-size-le-MOST_PAGE_PLACES-2
overflow_sub-result-else-size-le-MOST_PAGE_PLACES-2 c = (by_logarithm c).1

pub returns-else-size-le-MOST_PAGE_PLACES : goal.returns-else-size-le-MOST_PAGE_PLACES
returns-else-size-le-MOST_PAGE_PLACES c = (by_logarithm c).2
