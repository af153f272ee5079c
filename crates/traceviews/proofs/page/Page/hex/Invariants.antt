use Rattle.std.proofs.Common.{take}
use Rattle.seqpool.specs.ActsText.{hex}
use Rattle.traceviews.specs.Pages.{Grows}
use Rattle.traceviews.proofs.page.Page.hex.Given as goal

abbrev pub invariant-loop-byte : goal.invariant-loop-byte
invariant-loop-byte l = Grows l.fn.self l.self (hex (take l.byte-index l.bytes))
