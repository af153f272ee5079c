use Rattle.std.proofs.Common.{◌≡◌, ◌+◌, ◌≤◌, take, fold}
use Rattle.explanations.specs.Places.{column_with}
use Rattle.explanations.proofs.places.column_behind.Given as goal

abbrev pub invariant-loop-byte : goal.invariant-loop-byte
invariant-loop-byte l = record {
  few : l.column ≤ l.byte-index + 1;
  same : l.column ≡ fold column_with 1 (take l.byte-index l.bytes);
}
