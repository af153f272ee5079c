use Rattle.std.proofs.Common.{take}
use Rattle.std.specs.List.{flat_map}
use Rattle.traceviews.specs.Pages.{Grows}
use Rattle.traceviews.specs.Summaries.{place_end_text}
use Rattle.traceviews.proofs.summary.push_places.Given as goal

abbrev pub invariant-loop-place : goal.invariant-loop-place
invariant-loop-place l = Grows l.fn.out l.out (flat_map place_end_text (take l.place-index l.ends))
