use Rattle.std.proofs.Common.{◌+◌, ◌≤◌, length}
use Rattle.traceviews.specs.Numbered.{numbered}
use Rattle.traceviews.specs.Pages.{Grows}
use Rattle.traceviews.specs.Turns.{turns_of}
use Rattle.traceviews.specs.declared.page.Page.{Page}
use Rattle.traceviews.specs.Json.{line_within}
use Rattle.traceviews.proofs.json.push_turns_within.Given as goal

-- whatever comes of the rest comes behind what is there
abbrev pub invariant-loop-turn : goal.invariant-loop-turn
invariant-loop-turn l = record {
  few : l.number + length l.rest ≤ length l.fn.lines;
  grows : (new : Page) → Grows l.out new (numbered (line_within l.first l.count) l.number (turns_of l.rest)) → Grows l.fn.out new (numbered (line_within l.first l.count) 0 (turns_of l.fn.lines));
}

abbrev pub decreases-loop-turn : goal.decreases-loop-turn
decreases-loop-turn l = length l.rest
