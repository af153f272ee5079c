use Rattle.std.proofs.Common.{◌≡◌, ◌+◌, ◌≤◌, length}
use Rattle.traceviews.specs.Turns.{turns_of}
use Rattle.traceviews.proofs.turns.turn_count.Given as goal

abbrev pub invariant-loop-behind : goal.invariant-loop-behind
invariant-loop-behind l = record {
  turns : l.count + length (turns_of l.rest) ≡ length (turns_of l.fn.lines);
  few : l.count + length l.rest ≤ length l.fn.lines;
}

abbrev pub decreases-loop-behind : goal.decreases-loop-behind
decreases-loop-behind l = length l.rest
