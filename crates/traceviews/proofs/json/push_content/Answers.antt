use Rattle.std.proofs.Common.{◌++◌, codes, refl}
use Rattle.seqpool.specs.ActsText.{hex}
use Rattle.traceviews.proofs.PageLemmas.{grows_more}
use Rattle.traceviews.proofs.json.push_content.Goals as goal

pub returns : goal.returns
returns c =
    let p0 = c.args.out.now in
    let p1 = c.text.new.self in
    let p2 = c.text-2.new.self in
    let p3 = c.text-3.new.self in
    let p4 = c.hex.new.self in
    let t1 = (codes "{\"reply\":\"") in
    let t2 = t1 ++ c.args.name.now in
    let g2 = grows_more p0 p1 p2 t1 c.args.name.now t2 c.text.ensures c.text-2.ensures refl in
    let t3 = t2 ++ (codes "\",\"content\":\"") in
    let g3 = grows_more p0 p2 p3 t2 (codes "\",\"content\":\"") t3 g2 c.text-3.ensures refl in
    let t4 = t3 ++ (hex c.args.content.now) in
    let g4 = grows_more p0 p3 p4 t3 (hex c.args.content.now) t4 g3 c.hex.ensures refl in
    grows_more p0 p4 c.text-4.new.self t4 (codes "\"}") _ g4 c.text-4.ensures refl
