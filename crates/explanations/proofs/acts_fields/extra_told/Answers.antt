use Rattle.std.proofs.Common.{append_assoc}
use Rattle.explanations.proofs.acts_fields.extra_told.Goals as goal

pub returns : goal.returns
returns c = simp append_assoc (simp c.in_ok-field.ensures at c.format.ensures.ok)
