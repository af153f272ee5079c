use Rattle.std.proofs.Common.{take}
use Rattle.std.specs.List.{flat_map}
use Rattle.traceviews.specs.Pages.{Grows}
use Rattle.traceviews.specs.Summaries.{steps_text}
use Rattle.traceviews.proofs.summary.push_step_counts.Given as goal

abbrev pub invariant-loop-name : goal.invariant-loop-name
invariant-loop-name l = Grows l.fn.out l.out (flat_map (steps_text l.lines l.lane) (take l.name-index l.names))
