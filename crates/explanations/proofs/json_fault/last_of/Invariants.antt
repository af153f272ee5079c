use Rattle.std.proofs.Common.{◌≡◌, None, take, fold}
use Rattle.explanations.specs.JsonFaults.{last_with}
use Rattle.explanations.proofs.json_fault.last_of.Given as goal

abbrev pub invariant-loop-byte : goal.invariant-loop-byte
invariant-loop-byte l = l.last ≡ fold last_with None (take l.byte-index l.bytes)
