use Rattle.std.proofs.Common.{take}
use Rattle.streams.specs.Saying.{Says}
use Rattle.streams.specs.Shown.{lines_text}
use Rattle.streams.proofs.shown.write_lines.Given as goal

-- what was said shows the bytes before this one
abbrev pub invariant-loop-byte : goal.invariant-loop-byte
invariant-loop-byte g l = Says g.W.Write.contents l.fn.out l.out (lines_text (take l.byte-index l.text))
