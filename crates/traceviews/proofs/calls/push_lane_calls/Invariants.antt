use Rattle.std.proofs.Common.{◌+◌, ◌≤◌, length, None}
use Rattle.traceviews.specs.Calls.{calls_from}
use Rattle.traceviews.specs.Pages.{Grows}
use Rattle.traceviews.specs.Turns.{turns_of}
use Rattle.traceviews.specs.declared.page.Page.{Page}
use Rattle.traceviews.proofs.calls.push_lane_calls.Given as goal

-- whatever comes of the rest comes behind what is there
abbrev pub invariant-loop-turn : goal.invariant-loop-turn
invariant-loop-turn l = record {
  few : l.number + length l.rest ≤ length l.fn.lines;
  grows : (new : Page) → Grows l.out new (calls_from l.lane l.begun l.number (turns_of l.rest)) → Grows l.fn.out new (calls_from l.lane None 0 (turns_of l.fn.lines));
}

abbrev pub decreases-loop-turn : goal.decreases-loop-turn
decreases-loop-turn l = length l.rest
