use Rattle.std.proofs.Common.{◌++◌, codes, decimal, refl}
use Rattle.traceviews.specs.Decoded.{link_text}
use Rattle.traceviews.proofs.PageLemmas.{grows_more}
use Rattle.traceviews.proofs.json.push_link.Goals as goal

pub returns : goal.returns
returns c =
    let word = c.args.word in
    let p0 = c.args.out.now in
    let p1 = c.named.new.self in
    let p2 = c.text.new.self in
    let p3 = c.link.new.self in
    let t1 = (codes "{\"word\":\"" ++ decimal word) in
    let t2 = t1 ++ (codes "\",\"link\":\"") in
    let g2 = grows_more p0 p1 p2 t1 (codes "\",\"link\":\"") t2 c.named.ensures c.text.ensures refl in
    let t3 = t2 ++ (link_text c.args.shard word) in
    let g3 = grows_more p0 p2 p3 t2 (link_text c.args.shard word) t3 g2 c.link.ensures refl in
    grows_more p0 p3 c.text-2.new.self t3 (codes "\"}") _ g3 c.text-2.ensures refl
