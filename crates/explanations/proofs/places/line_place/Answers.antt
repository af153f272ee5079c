use Rattle.std.proofs.Common.{append_assoc}
use Rattle.explanations.proofs.places.line_place.Goals as goal

pub returns : goal.returns
returns c = simp append_assoc (simp (c.in_ok-place.ensures, c.in_ok-operand.ensures) at c.format.ensures.ok)
