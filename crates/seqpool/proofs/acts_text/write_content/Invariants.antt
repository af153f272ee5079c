use Rattle.std.proofs.Common.{◌≡◌, ◌++◌, take, string_bytes}
use Rattle.seqpool.specs.ActsText.{hex}
use Rattle.seqpool.proofs.acts_text.write_content.Given as goal

abbrev pub invariant-loop-byte : goal.invariant-loop-byte
invariant-loop-byte l = string_bytes l.text ≡ string_bytes l.initial.text ++ hex (take l.byte-index l.content)
