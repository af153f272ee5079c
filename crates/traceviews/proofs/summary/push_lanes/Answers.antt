use Rattle.std.proofs.Common.{get_or, refl}
use Rattle.traceviews.specs.Summaries.{lane_text}
use Rattle.traceviews.proofs.PageLemmas.{grows_next}
use Rattle.traceviews.proofs.summary.push_lanes.Goals as goal

pub loop-lane-preserved : goal.loop-lane-preserved
loop-lane-preserved c =
    let at = c.loop-lane in
    let lanes = c.args.lanes.now in
    grows_next (lane_text c.args.lines.now) lanes at.lane-index (get_or lanes at.lane-index 0) 0 c.args.out.now at.out c.push_lane.new.out
    at.invariant c.push_lane.ensures refl c.loop-lane-test.true
