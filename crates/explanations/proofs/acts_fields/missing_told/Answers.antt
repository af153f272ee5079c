use Rattle.std.proofs.Common.{append_assoc}
use Rattle.explanations.proofs.acts_fields.missing_told.Goals as goal

pub returns : goal.returns
returns c = simp append_assoc (simp c.want_text-want.ensures at c.format.ensures.ok)
