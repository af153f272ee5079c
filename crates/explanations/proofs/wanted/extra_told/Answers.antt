use Rattle.std.proofs.Common.{append_assoc}
use Rattle.explanations.proofs.wanted.extra_told.Goals as goal

pub returns : goal.returns
returns c = simp append_assoc (simp (c.in_ok-name.ensures, c.as_bytes.ensures.value) at c.format.ensures.ok)
