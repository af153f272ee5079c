use Rattle.std.proofs.Common.{◌++◌, ℕ, List, codes, refl, subst}
use Rattle.traceviews.specs.Events.{turn_title}
use Rattle.traceviews.specs.Json.{turn_object}
use Rattle.traceviews.specs.Tracks.{track_fields}
use Rattle.traceviews.specs.Turns.{behind, lane_of}
use Rattle.traceviews.specs.declared.line.Line.{Line}
use Rattle.traceviews.specs.Pages.{Grows}
use Rattle.traceviews.proofs.PageLemmas.{grows_more}
use Rattle.traceviews.proofs.events.push_slice.Goals as goal

pub returns : goal.returns
returns c =
    let number = c.args.number in
    let turn = c.args.turn.now in
    let p0 = c.args.out.now in
    let p1 = c.text.new.self in
    let p2 = c.push_track.new.out in
    let p3 = c.text-2.new.self in
    let p4 = c.push_turn_title.new.out in
    let p5 = c.text-3.new.self in
    let p6 = c.push_turn.new.out in
    let t1 = (codes ",\n{\"ph\":\"X\",\"dur\":1") in
    let s2 : Grows p1 p2 (track_fields (lane_of turn) number) = subst (λ (n : ℕ). Grows p1 p2 (track_fields n number)) c.lane_of.ensures c.push_track.ensures in
    let t2 = t1 ++ (track_fields (lane_of turn) number) in
    let g2 = grows_more p0 p1 p2 t1 (track_fields (lane_of turn) number) t2 c.text.ensures s2 refl in
    let t3 = t2 ++ (codes ",\"name\":\"") in
    let g3 = grows_more p0 p2 p3 t2 (codes ",\"name\":\"") t3 g2 c.text-2.ensures refl in
    let s4 : Grows p3 p4 (turn_title (behind turn)) = subst (λ (lines : List Line). Grows p3 p4 (turn_title lines)) c.split_step.ensures.behind c.push_turn_title.ensures in
    let t4 = t3 ++ (turn_title (behind turn)) in
    let g4 = grows_more p0 p3 p4 t3 (turn_title (behind turn)) t4 g3 s4 refl in
    let t5 = t4 ++ (codes "\",\"args\":") in
    let g5 = grows_more p0 p4 p5 t4 (codes "\",\"args\":") t5 g4 c.text-3.ensures refl in
    let t6 = t5 ++ (turn_object number turn) in
    let g6 = grows_more p0 p5 p6 t5 (turn_object number turn) t6 g5 c.push_turn.ensures refl in
    grows_more p0 p6 c.text-4.new.self t6 (codes "}") _ g6 c.text-4.ensures refl
