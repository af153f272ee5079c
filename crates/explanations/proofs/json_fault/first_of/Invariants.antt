use Rattle.std.proofs.Common.{◌≡◌, drop}
use Rattle.explanations.specs.JsonFaults.{first_of}
use Rattle.explanations.proofs.json_fault.first_of.Given as goal

-- the first is behind the bytes so far
abbrev pub invariant-loop-byte : goal.invariant-loop-byte
invariant-loop-byte l = first_of (drop l.byte-index l.bytes) ≡ first_of l.bytes
