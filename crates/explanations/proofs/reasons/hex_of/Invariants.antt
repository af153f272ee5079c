use Rattle.std.proofs.Common.{◌≡◌, take}
use Rattle.seqpool.specs.ActsText.{hex}
use Rattle.explanations.proofs.reasons.hex_of.Given as goal

abbrev pub invariant-loop-byte : goal.invariant-loop-byte
invariant-loop-byte l = l.text.items ≡ hex (take l.byte-index l.bytes)
