use Rattle.std.proofs.Common.{◌++◌, ◌∙◌, ℕ, List, codes, refl, ap}
use Rattle.std.proofs.lemmas.Result.{IfOk-weaker}
use Rattle.traceviews.specs.HtmlPages.{states_text, title_text}
use Rattle.traceviews.proofs.PageLemmas.{grows_more}
use Rattle.traceviews.proofs.ways_page.ways_html_text.Goals as goal

pub returns : goal.returns
returns c =
    let title = title_text c.args.name.now in
    let within = states_text c.args.json.now in
    let head = c.head.result.now in
    let style = c.style.result.now in
    let body = c.body.result.now in
    let ways = c.ways.result.now in
    let script = c.script.result.now in
    let p0 = c.new-out.result in
    let p1 = c.text.new.self in
    let p2 = c.text-2.new.self in
    let p3 = c.push_title.new.out in
    let p4 = c.text-3.new.self in
    let p5 = c.text-4.new.self in
    let p6 = c.push_states.new.out in
    let p7 = c.text-5.new.self in
    let p8 = c.text-6.new.self in
    let p9 = c.text-7.new.self in
    let t1 = codes "<!DOCTYPE html>\n" in
    let t2 = t1 ++ head in
    let t3 = t2 ++ title in
    let t5 = t3 ++ (style ++ body) in
    let t6 = t5 ++ within in
    let t8 = t6 ++ (ways ++ script) in
    let t9 = t8 ++ codes "</html>\n" in
    let g2 = grows_more p0 p1 p2 t1 head t2 c.text.ensures c.text-2.ensures refl in
    let g3 = grows_more p0 p2 p3 t2 title t3 g2 c.push_title.ensures refl in
    let both = grows_more p3 p4 p5 style body (style ++ body) c.text-3.ensures c.text-4.ensures refl in
    let g5 = grows_more p0 p3 p5 t3 (style ++ body) t5 g3 both refl in
    let g6 = grows_more p0 p5 p6 t5 within t6 g5 c.push_states.ensures refl in
    let scripts = grows_more p6 p7 p8 ways script (ways ++ script) c.text-5.ensures c.text-6.ensures refl in
    let g8 = grows_more p0 p6 p8 t6 (ways ++ script) t8 g6 scripts refl in
    let whole = grows_more p0 p8 p9 t8 (codes "</html>\n") t9 g8 c.text-7.ensures refl in
    IfOk-weaker c.finish.result _ _
    (λ text is. record {
      head = head;
      middle = style ++ body;
      tail = ways ++ script;
      is = ap (λ v. v.items) is.1 ∙ (whole is.0).1 ∙ ap (λ (xs : List ℕ). xs ++ t9) c.new-out.ensures.1;
    })
    c.finish.ensures
