use Rattle.std.proofs.Common.{◌++◌, ℕ, codes, decimal, length, refl, subst}
use Rattle.traceviews.specs.Json.{window_text}
use Rattle.traceviews.specs.Pages.{Grows}
use Rattle.traceviews.specs.Turns.{turns_of}
use Rattle.traceviews.proofs.PageLemmas.{grows_more}
use Rattle.traceviews.proofs.html.push_data.Goals as goal

pub returns : goal.returns
returns c =
    let p0 = c.args.out.now in
    let p1 = c.named.new.self in
    let p2 = c.text.new.self in
    let p3 = c.push_window.new.out in
    let tag = codes "<script type='application/json' id='trace' data-turns='" in
    let window = window_text c.args.first c.args.count c.args.lines.now in
    let t1 = tag ++ decimal (length (turns_of c.args.lines.now)) in
    let t2 = t1 ++ codes "'>\n" in
    let t3 = t2 ++ window in
    let g1 : Grows p0 p1 t1 = subst (λ (n : ℕ). Grows p0 p1 (tag ++ decimal n)) c.turn_count.ensures c.named.ensures in
    let g2 = grows_more p0 p1 p2 t1 (codes "'>\n") t2 g1 c.text.ensures refl in
    let g3 = grows_more p0 p2 p3 t2 window t3 g2 c.push_window.ensures refl in
    grows_more p0 p3 c.text-2.new.self t3 (codes "</script>\n") _ g3 c.text-2.ensures refl
