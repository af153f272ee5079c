use Rattle.std.proofs.Common.{◌+◌, List, drop, sym, subst, arith}
use Rattle.outcomes.specs.declared.reached.Reached.{Reached}
use Rattle.outcomes.specs.Search.{AreVisited}
use Rattle.outcomes.proofs.SearchLemmas.{drop-is, drop-none, item-in, layer-begun, layer-on}
use Rattle.outcomes.proofs.search.next_layer.Goals as goal

pub loop-from-init : goal.loop-from-init
loop-from-init c = λ size are shown.
    let layer = c.args.layer.now in
    let table = c.args.table.now.items in
    subst (λ (next : List Reached). AreVisited c.args.shape.now c.args.scripts.now size layer table layer next table) (sym c.new-next.ensures.items)
    (layer-begun c.args.shape.now c.args.scripts.now size layer table shown)

pub loop-from-preserved : goal.loop-from-preserved
loop-from-preserved c = λ size are shown.
    let z = c.args.shape.now in
    let scripts = c.args.scripts.now in
    let layer = c.args.layer.now in
    let table = c.args.table.now.items in
    let at = c.loop-from in
    let i = at.from-index in
    let from = c.from-item.result in
    let before = at.invariant size are shown in
    let opened = subst (λ (left : List Reached). AreVisited z scripts size layer table left at.next.items at.table.items)
    (drop-is layer i from c.loop-from-test.true c.from-item.is) before in
    let r = are from (item-in layer i from c.loop-from-test.true c.from-item.is) in
    layer-on z scripts size layer table from (drop (i + 1) layer) at.next.items _ at.table.items _ opened
    (c.in_ok-visit.ensures size r before.reached before.shown)

pub returns : goal.returns
returns c = λ size are shown.
    let layer = c.args.layer.now in
    let at = c.loop-from in
    subst (λ (left : List Reached). AreVisited c.args.shape.now c.args.scripts.now size layer c.args.table.now.items left at.next.items
    at.table.items) (drop-none layer at.from-index (omega arith)) (at.invariant size are shown)
