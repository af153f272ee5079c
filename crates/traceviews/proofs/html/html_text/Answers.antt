use Rattle.std.proofs.Common.{◌++◌, ◌∙◌, ℕ, List, codes, refl, ap}
use Rattle.std.proofs.lemmas.Result.{IfOk-weaker}
use Rattle.traceviews.specs.HtmlPages.{data_text, title_text}
use Rattle.traceviews.proofs.PageLemmas.{grows_more}
use Rattle.traceviews.proofs.html.html_text.Goals as goal

pub returns : goal.returns
returns c =
    let title = title_text c.args.name.now in
    let within = data_text c.args.first c.args.count c.args.lines.now in
    let head = c.head.result.now in
    let style = c.style.result.now in
    let body = c.body.result.now in
    let tail = c.script.result.now in
    let p0 = c.new-out.result in
    let p1 = c.text.new.self in
    let p2 = c.text-2.new.self in
    let p3 = c.push_title.new.out in
    let p4 = c.text-3.new.self in
    let p5 = c.text-4.new.self in
    let p6 = c.push_data.new.out in
    let p7 = c.text-5.new.self in
    let p8 = c.text-6.new.self in
    let t1 = codes "<!DOCTYPE html>\n" in
    let t2 = t1 ++ head in
    let t3 = t2 ++ title in
    let t5 = t3 ++ (style ++ body) in
    let t6 = t5 ++ within in
    let t7 = t6 ++ tail in
    let t8 = t7 ++ codes "</html>\n" in
    let g2 = grows_more p0 p1 p2 t1 head t2 c.text.ensures c.text-2.ensures refl in
    let g3 = grows_more p0 p2 p3 t2 title t3 g2 c.push_title.ensures refl in
    let both = grows_more p3 p4 p5 style body (style ++ body) c.text-3.ensures c.text-4.ensures refl in
    let g5 = grows_more p0 p3 p5 t3 (style ++ body) t5 g3 both refl in
    let g6 = grows_more p0 p5 p6 t5 within t6 g5 c.push_data.ensures refl in
    let g7 = grows_more p0 p6 p7 t6 tail t7 g6 c.text-5.ensures refl in
    let whole = grows_more p0 p7 p8 t7 (codes "</html>\n") t8 g7 c.text-6.ensures refl in
    IfOk-weaker c.finish.result _ _
    (λ text is. record {
      head = head;
      middle = style ++ body;
      tail = tail;
      is = ap (λ v. v.items) is.1 ∙ (whole is.0).1 ∙ ap (λ (xs : List ℕ). xs ++ t8) c.new-out.ensures.1;
    })
    c.finish.ensures
