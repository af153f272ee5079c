use Rattle.std.proofs.Common.{append_assoc}
use Rattle.explanations.proofs.script.script_told.Goals as goal

pub returns : goal.returns
returns c = simp append_assoc (simp (c.in_ok-place.ensures, c.in_ok-found.ensures, c.in_ok-wanted.ensures) at c.format.ensures.ok)
