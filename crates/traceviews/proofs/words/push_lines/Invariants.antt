use Rattle.std.proofs.Common.{take}
use Rattle.std.specs.List.{flat_map}
use Rattle.traceviews.specs.Pages.{Grows}
use Rattle.traceviews.specs.Styles.{styled_words}
use Rattle.traceviews.proofs.words.push_lines.Given as goal

abbrev pub invariant-loop-line : goal.invariant-loop-line
invariant-loop-line l = Grows l.fn.out l.out (flat_map (styled_words l.style.keys) (take l.line-index l.lines))
