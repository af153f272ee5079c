use Rattle.std.proofs.Common.{get_or, refl}
use Rattle.traceviews.specs.Events.{lane_event}
use Rattle.traceviews.proofs.PageLemmas.{grows_next}
use Rattle.traceviews.proofs.events.push_lanes.Goals as goal

pub loop-lane-preserved : goal.loop-lane-preserved
loop-lane-preserved c =
    let at = c.loop-lane in
    let lanes = c.args.lanes.now in
    grows_next lane_event lanes at.lane-index (get_or lanes at.lane-index 0) 0 c.args.out.now at.out c.push_lane.new.out
    at.invariant c.push_lane.ensures refl c.loop-lane-test.true
