use Rattle.std.proofs.Common.{◌++◌, codes, refl}
use Rattle.traceviews.specs.Json.{entry_object, items_text}
use Rattle.traceviews.proofs.PageLemmas.{grows_more}
use Rattle.traceviews.proofs.json.push_step_and_more.Goals as goal

pub returns : goal.returns
returns c =
    let p0 = c.args.out.now in
    let p1 = c.text.new.self in
    let p2 = c.push_entry.new.out in
    let p3 = c.text-2.new.self in
    let t1 = codes ",\"step\":" in
    let entry = entry_object c.args.line.now.entry in
    let t2 = t1 ++ entry in
    let t3 = t2 ++ codes ",\"after\":" in
    let g2 = grows_more p0 p1 p2 t1 entry t2 c.text.ensures c.push_entry.ensures refl in
    let g3 = grows_more p0 p2 p3 t2 (codes ",\"after\":") t3 g2 c.text-2.ensures refl in
    grows_more p0 p3 c.push_items.new.out t3 (items_text c.args.more.now) _ g3 c.push_items.ensures refl
