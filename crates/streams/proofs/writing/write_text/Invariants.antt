use Rattle.std.proofs.Common.{◌≡◌, length, false}
use Rattle.streams.proofs.Pieces.{WritesFront}
use Rattle.streams.proofs.writing.write_text.Given as goal

-- unless a write failed, what is written, and the rest, are the text
abbrev pub invariant-loop-rest : goal.invariant-loop-rest
invariant-loop-rest g l =
    l.out.failed ≡ false
    → (l.fn.out.failed ≡ false) × WritesFront (g.W.Write.contents l.fn.out.inner) (g.W.Write.contents l.out.inner) l.text l.rest

abbrev pub decreases-loop-rest : goal.decreases-loop-rest
decreases-loop-rest g l = length l.rest
