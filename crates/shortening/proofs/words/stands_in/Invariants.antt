use Rattle.shortening.specs.Words.{StandsIn}
use Rattle.std.proofs.Common.{length}
use Rattle.shortening.proofs.words.stands_in.Given as goal

-- the word stands in what is left just where it stands in the text
abbrev pub invariant-loop-byte : goal.invariant-loop-byte
invariant-loop-byte l = record {
  found : StandsIn l.word l.rest → StandsIn l.word l.text;
  left : StandsIn l.word l.text → StandsIn l.word l.rest;
}

abbrev pub decreases-loop-byte : goal.decreases-loop-byte
decreases-loop-byte l = length l.rest
