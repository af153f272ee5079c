use Rattle.std.proofs.Common.{ℕ, List, refl, subst}
use Rattle.traceviews.specs.Events.{slice_event, turn_flow}
use Rattle.traceviews.specs.Pages.{Grows}
use Rattle.traceviews.specs.Turns.{lane_of, behind}
use Rattle.traceviews.specs.declared.line.Line.{Line}
use Rattle.traceviews.proofs.PageLemmas.{grows_more}
use Rattle.traceviews.proofs.events.push_turn_events.Goals as goal

pub returns : goal.returns
returns c =
    let turn = c.args.turn.now in
    let number = c.args.number in
    let p1 = c.push_slice.new.out in
    let p2 = c.push_turn_flow.new.out in
    let lane = c.lane_of.result in
    let near : Grows p1 p2 (turn_flow lane number (behind turn)) = subst (λ (lines : List Line). Grows p1 p2 (turn_flow lane number lines)) c.split_step.ensures.behind c.push_turn_flow.ensures in
    let flow : Grows p1 p2 (turn_flow (lane_of turn) number (behind turn)) = subst (λ (n : ℕ). Grows p1 p2 (turn_flow n number (behind turn))) c.lane_of.ensures near in
    grows_more c.args.out.now p1 p2 (slice_event number turn) (turn_flow (lane_of turn) number (behind turn)) _ c.push_slice.ensures flow refl
