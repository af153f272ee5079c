use Rattle.std.proofs.Common.{length}
use Rattle.explanations.proofs.acts_fields.+first_wrong.Given as goal

abbrev pub decreases-first_wrong : goal.decreases-first_wrong
decreases-first_wrong l = length l.wants.now
