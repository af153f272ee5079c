use Rattle.std.proofs.Common.{append_assoc}
use Rattle.explanations.proofs.wanted.counts_told.Goals as goal

pub returns : goal.returns
returns c = simp append_assoc (simp (c.script_count-scripts.ensures, c.in_ok-lanes.ensures) at c.format.ensures.ok)
