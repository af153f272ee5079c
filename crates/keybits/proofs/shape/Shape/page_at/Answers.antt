use Rattle.std.proofs.Common.{◌+◌, ◌-◌, ◌/◌, ◌≤◌, arith}
use Rattle.keybits.specs.Shapes.{IsInPage}
use Rattle.keybits.proofs.ShapeLemmas.{shape_bounds, in_page_doubling, in_page_full}
use Rattle.keybits.proofs.shape.Shape.page_at.Goals as goal

pub overflow_add-past : goal.overflow_add-past
overflow_add-past c =
    let bounds = shape_bounds c.args.self.now c.requires.shape in
    let below = c.requires.index in omega (arith, below, bounds.shard, bounds.first_page)

pub returns-then-past : goal.returns-then-past
returns-then-past c =
    in_page_doubling c.args.self.now.first_page c.args.self.now.pages c.ilog2.result c.args.index c.requires.shape.first_page c.requires.index c.if-past.true
    c.ilog2.ensures.power_le c.ilog2.ensures.next_power_gt

-- where pages have the most

full : (c : goal.After-ilog2-else-past) → let past = c.args.index + c.args.self.now.first_page in let r = c.ilog2-else-past.result in
    (r ≤ past / 4096 + 11) × IsInPage c.args.self.now.first_page c.args.self.now.pages (past / 4096 + 11 - r) c.args.index
full c =
    in_page_full c.args.self.now.first_page c.args.self.now.pages c.args.index c.ilog2-else-past.result c.requires.shape.first_page c.requires.index c.if-past.false
    c.ilog2-else-past.ensures.power_le c.ilog2-else-past.ensures.next_power_gt

pub overflow_sub-result : goal.overflow_sub-result
overflow_sub-result c = (full c).0

pub returns-else-past : goal.returns-else-past
returns-else-past c = (full c).1
