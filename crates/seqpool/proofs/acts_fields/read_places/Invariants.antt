use Rattle.std.proofs.Common.{length}
use Rattle.seqpool.specs.ReadTexts.{ArePlaces}
use Rattle.seqpool.proofs.Parts.{IsReadUpTo}
use Rattle.seqpool.proofs.acts_fields.read_places.Given as goal

abbrev pub invariant-loop-front : goal.invariant-loop-front
invariant-loop-front l = IsReadUpTo ArePlaces l.places.items l.rest l.text

abbrev pub decreases-loop-front : goal.decreases-loop-front
decreases-loop-front l = length l.rest
