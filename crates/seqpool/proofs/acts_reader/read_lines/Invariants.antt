use Rattle.std.proofs.Common.{length}
use Rattle.seqpool.specs.ReadTexts.{AreActs}
use Rattle.seqpool.proofs.Parts.{IsReadUpTo}
use Rattle.seqpool.proofs.WrongLines.{IsBegun}
use Rattle.seqpool.proofs.acts_reader.read_lines.Given as goal

abbrev pub invariant-loop-rest : goal.invariant-loop-rest
invariant-loop-rest l = record {
  read : IsReadUpTo AreActs l.acts.items l.rest l.text;
  begun : IsBegun l.acts.items l.rest l.text;
}

abbrev pub decreases-loop-rest : goal.decreases-loop-rest
decreases-loop-rest l = length l.rest
