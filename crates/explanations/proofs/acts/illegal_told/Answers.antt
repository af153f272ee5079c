use Rattle.std.proofs.Common.{append_assoc}
use Rattle.explanations.proofs.acts.illegal_told.Goals as goal

pub returns : goal.returns
returns c = simp append_assoc (simp (c.in_ok-shown.ensures, c.line_at.ensures, c.after_line.ensures) at c.format.ensures.ok)
