use Rattle.std.proofs.Common.{take, flat_map}
use Rattle.traceviews.specs.HtmlPages.{script_code}
use Rattle.traceviews.specs.Pages.{Grows}
use Rattle.traceviews.proofs.ways_page.push_json.Given as goal

abbrev pub invariant-loop-byte : goal.invariant-loop-byte
invariant-loop-byte l = Grows l.fn.out l.out (flat_map script_code (take l.byte-index l.json))
