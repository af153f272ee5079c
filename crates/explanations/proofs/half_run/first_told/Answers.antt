use Rattle.std.proofs.Common.{append_assoc}
use Rattle.explanations.proofs.half_run.first_told.Goals as goal

pub returns : goal.returns
returns c = simp append_assoc (simp c.absent_count-count.ensures at c.format.ensures.ok)
