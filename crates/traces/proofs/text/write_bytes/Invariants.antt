use Rattle.std.proofs.Common.{◌≡◌, ◌++◌, take}
use Rattle.std.specs.List.{flat_map}
use Rattle.seqpool.specs.ActsText.{hex_pair}
use Rattle.traces.proofs.text.write_bytes.Given as goal

abbrev pub invariant-loop-byte : goal.invariant-loop-byte
invariant-loop-byte l = l.out.items ≡ l.fn.out.items ++ flat_map hex_pair (take l.byte-index l.bytes)
