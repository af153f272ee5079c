use Rattle.std.proofs.Common.{take}
use Rattle.std.specs.List.{flat_map}
use Rattle.traceviews.specs.Calls.{lane_calls}
use Rattle.traceviews.specs.Pages.{Grows}
use Rattle.traceviews.proofs.calls.push_calls.Given as goal

abbrev pub invariant-loop-lane : goal.invariant-loop-lane
invariant-loop-lane l = Grows l.fn.out l.out (flat_map (lane_calls l.lines) (take l.lane-index l.lanes))
