use Rattle.std.proofs.Common.{take, flat_map}
use Rattle.traceviews.specs.HtmlPages.{html_code}
use Rattle.traceviews.specs.Pages.{Grows}
use Rattle.traceviews.proofs.html.push_plain.Given as goal

abbrev pub invariant-loop-byte : goal.invariant-loop-byte
invariant-loop-byte l = Grows l.fn.out l.out (flat_map html_code (take l.byte-index l.bytes))
