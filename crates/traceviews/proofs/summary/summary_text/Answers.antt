use Rattle.std.proofs.Common.{◌++◌, ◌∙◌, ℕ, List, refl, sym, ap, subst}
use Rattle.std.specs.List.{flat_map}
use Rattle.std.proofs.lemmas.Result.{IfOk-weaker}
use Rattle.traceviews.specs.Ends.{AreEnds}
use Rattle.traceviews.specs.Pages.{Grows}
use Rattle.traceviews.specs.Summaries.{AreLanes, counts_line, lane_text, states_text, place_end_text}
use Rattle.traceviews.proofs.PageLemmas.{grows_more}
use Rattle.traceviews.proofs.summary.summary_text.Goals as goal

pub returns : goal.returns
returns c =
    let lines = c.args.lines.now in
    let lanes = c.as_slice.result.now in
    let ends = c.as_slice-2.result.now in
    let p0 = c.new-out.result in
    let p1 = c.push_counts.new.out in
    let p2 = c.push_lanes.new.out in
    let p3 = c.push_states.new.out in
    let p4 = c.push_places.new.out in
    let t1 = counts_line lines in
    let t2 = t1 ++ flat_map (lane_text lines) lanes in
    let t3 = t2 ++ states_text ends in
    let last = flat_map place_end_text ends in
    let same = c.as_slice-3.ensures.value ∙ sym c.as_slice-2.ensures.value in
    let told : Grows p3 p4 last = subst (λ (xs : List (ℕ × ℕ)). Grows p3 p4 (flat_map place_end_text xs)) same c.push_places.ensures in
    let g2 = grows_more p0 p1 p2 t1 (flat_map (lane_text lines) lanes) t2 c.push_counts.ensures c.push_lanes.ensures refl in
    let g3 = grows_more p0 p2 p3 t2 (states_text ends) t3 g2 c.push_states.ensures refl in
    let whole = grows_more p0 p3 p4 t3 last (t3 ++ last) g3 told refl in
    let are_lanes : AreLanes lines lanes = subst (AreLanes lines) (sym c.as_slice.ensures.value) c.in_ok-lanes.ensures in
    let are_ends : AreEnds lines ends = subst (AreEnds lines) (sym c.as_slice-2.ensures.value) c.in_ok-ends.ensures in
    IfOk-weaker c.finish.result _ _
    (λ text is. record {
      lanes = lanes;
      are_lanes = are_lanes;
      ends = ends;
      are_ends = are_ends;
      is = ap (λ v. v.items) is.1 ∙ (whole is.0).1 ∙ ap (λ (xs : List ℕ). xs ++ (t3 ++ last)) c.new-out.ensures.1;
    })
    c.finish.ensures
