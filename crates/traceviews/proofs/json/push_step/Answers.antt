use Rattle.std.proofs.Common.{◌++◌, ◌∙◌, List, ℕ, ap, codes, refl, subst}
use Rattle.traces.specs.Text.{kind_text}
use Rattle.traceviews.specs.Decoded.{aim_text, is_failed}
use Rattle.traceviews.specs.Json.{failed_field, value_object}
use Rattle.traceviews.specs.Lines.{kind_of}
use Rattle.traceviews.specs.Pages.{Grows}
use Rattle.traceviews.proofs.PageLemmas.{grows_more}
use Rattle.traceviews.proofs.json.push_step.Goals as goal

pub returns : goal.returns
returns c =
    let step = c.args.step.now in
    let p0 = c.args.out.now in
    let p1 = c.text.new.self in
    let p2 = c.text-2.new.self in
    let p3 = c.text-3.new.self in
    let p4 = c.aim.new.self in
    let p5 = c.text-4.new.self in
    let p6 = c.push_value.new.out in
    let p7 = c.text-5.new.self in
    let p8 = c.push_value-2.new.out in
    let t1 = (codes "{\"kind\":\"") in
    let s2 : Grows p1 p2 (kind_text (kind_of step.name)) = subst (λ (text : List ℕ). Grows p1 p2 text) c.step_name.ensures c.text-2.ensures in
    let t2 = t1 ++ (kind_text (kind_of step.name)) in
    let g2 = grows_more p0 p1 p2 t1 (kind_text (kind_of step.name)) t2 c.text.ensures s2 refl in
    let t3 = t2 ++ (codes "\",\"at\":\"") in
    let g3 = grows_more p0 p2 p3 t2 (codes "\",\"at\":\"") t3 g2 c.text-3.ensures refl in
    let t4 = t3 ++ (aim_text step.word) in
    let g4 = grows_more p0 p3 p4 t3 (aim_text step.word) t4 g3 c.aim.ensures refl in
    let t5 = t4 ++ (codes "\",\"found\":") in
    let g5 = grows_more p0 p4 p5 t4 (codes "\",\"found\":") t5 g4 c.text-4.ensures refl in
    let t6 = t5 ++ (value_object step.word step.before) in
    let g6 = grows_more p0 p5 p6 t5 (value_object step.word step.before) t6 g5 c.push_value.ensures refl in
    let t7 = t6 ++ (codes ",\"left\":") in
    let g7 = grows_more p0 p6 p7 t6 (codes ",\"left\":") t7 g6 c.text-5.ensures refl in
    let t8 = t7 ++ (value_object step.word step.after) in
    let g8 = grows_more p0 p7 p8 t7 (value_object step.word step.after) t8 g7 c.push_value-2.ensures refl in
    let s9 : Grows p8 c.text-6.new.self (failed_field (is_failed step)) = subst (λ (text : List ℕ). Grows p8 c.text-6.new.self text) (c.failed_words.ensures ∙ ap failed_field c.is_failed.ensures) c.text-6.ensures in
    grows_more p0 p8 c.text-6.new.self t8 (failed_field (is_failed step)) _ g8 s9 refl
