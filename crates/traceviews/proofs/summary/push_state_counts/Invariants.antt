use Rattle.std.proofs.Common.{take}
use Rattle.std.specs.List.{flat_map}
use Rattle.traceviews.specs.Pages.{Grows}
use Rattle.traceviews.specs.Summaries.{state_count_text}
use Rattle.traceviews.proofs.summary.push_state_counts.Given as goal

abbrev pub invariant-loop-state : goal.invariant-loop-state
invariant-loop-state l = Grows l.fn.out l.out (flat_map (state_count_text l.ends) (take l.state-index l.states))
