use Rattle.std.proofs.Common.{get_or, refl}
use Rattle.traceviews.specs.Calls.{lane_calls}
use Rattle.traceviews.proofs.PageLemmas.{grows_next}
use Rattle.traceviews.proofs.calls.push_calls.Goals as goal

pub loop-lane-preserved : goal.loop-lane-preserved
loop-lane-preserved c =
    let at = c.loop-lane in
    let lanes = c.args.lanes.now in
    grows_next (lane_calls c.args.lines.now) lanes at.lane-index (get_or lanes at.lane-index 0) 0 c.args.out.now at.out c.push_lane_calls.new.out
    at.invariant c.push_lane_calls.ensures refl c.loop-lane-test.true
