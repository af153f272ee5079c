use Rattle.std.proofs.Common.{◌++◌, ◌∙◌, ℕ, List, codes, decimal, refl, subst}
use Rattle.traceviews.specs.Json.{items_text, step_fields}
use Rattle.traceviews.specs.Turns.{behind, front, lane_of}
use Rattle.traceviews.specs.declared.line.Line.{Line}
use Rattle.traceviews.specs.Pages.{Grows}
use Rattle.traceviews.proofs.PageLemmas.{grows_more}
use Rattle.traceviews.proofs.json.push_turn.Goals as goal

pub returns : goal.returns
returns c =
    let turn = c.args.turn.now in
    let p0 = c.args.out.now in
    let p1 = c.named.new.self in
    let p2 = c.named-2.new.self in
    let p3 = c.text.new.self in
    let p4 = c.push_items.new.out in
    let p5 = c.push_step_fields.new.out in
    let t1 = (codes "{\"turn\":" ++ decimal c.args.number) in
    let s2 : Grows p1 p2 (codes ",\"lane\":" ++ decimal (lane_of turn)) = subst (λ (n : ℕ). Grows p1 p2 (codes ",\"lane\":" ++ decimal n)) (c.from.ensures ∙ c.lane_of.ensures) c.named-2.ensures in
    let t2 = t1 ++ (codes ",\"lane\":" ++ decimal (lane_of turn)) in
    let g2 = grows_more p0 p1 p2 t1 (codes ",\"lane\":" ++ decimal (lane_of turn)) t2 c.named.ensures s2 refl in
    let t3 = t2 ++ (codes ",\"before\":") in
    let g3 = grows_more p0 p2 p3 t2 (codes ",\"before\":") t3 g2 c.text.ensures refl in
    let s4 : Grows p3 p4 (items_text (front turn)) = subst (λ (lines : List Line). Grows p3 p4 (items_text lines)) c.split_step.ensures.front c.push_items.ensures in
    let t4 = t3 ++ (items_text (front turn)) in
    let g4 = grows_more p0 p3 p4 t3 (items_text (front turn)) t4 g3 s4 refl in
    let s5 : Grows p4 p5 (step_fields (behind turn)) = subst (λ (lines : List Line). Grows p4 p5 (step_fields lines)) c.split_step.ensures.behind c.push_step_fields.ensures in
    let t5 = t4 ++ (step_fields (behind turn)) in
    let g5 = grows_more p0 p4 p5 t4 (step_fields (behind turn)) t5 g4 s5 refl in
    grows_more p0 p5 c.text-2.new.self t5 (codes "}") _ g5 c.text-2.ensures refl
