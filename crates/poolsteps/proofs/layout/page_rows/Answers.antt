use Rattle.std.proofs.Common.{rules, ◌≡◌, ◌*◌, length, ap, ◌∙◌, arith}
use Rattle.poolsteps.specs.Layout.{page_rows}
use Rattle.poolsteps.proofs.PageLemmas.{rows-length, rows-more}
use Rattle.poolsteps.proofs.layout.page_rows.Goals as goal

pub loop-page-init : goal.loop-page-init
loop-page-init c = record { rows = search rules; room = search rules }

pub push_reserved-requires : goal.push_reserved-requires
push_reserved-requires c = let before = c.loop-page.invariant in omega (arith, ap length before.rows ∙ rows-length c.args.shape.now c.loop-page.page, before.room, c.loop-page-test.true)

pub loop-page-preserved : goal.loop-page-preserved
loop-page-preserved c =
    let z = c.args.shape.now in
    let pushed = c.push_reserved.ensures in
    let before = c.loop-page.invariant in record {
      rows = rw (pushed.items, before.rows, c.page_row.ensures) (rows-more z c.loop-page.page);
      room = rw pushed.capacity before.room;
    }

pub returns : goal.returns
returns c =
    let end : c.loop-page.page ≡ 16 * c.args.shape.now.lanes = omega arith in
    c.loop-page.invariant.rows ∙ ap (page_rows c.args.shape.now) end
