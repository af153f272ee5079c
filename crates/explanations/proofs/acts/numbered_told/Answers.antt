use Rattle.std.proofs.Common.{append_assoc}
use Rattle.explanations.proofs.acts.numbered_told.Goals as goal

pub returns : goal.returns
returns c = simp append_assoc (simp (c.in_ok-shown.ensures, c.in_ok-why.ensures, c.line_at-line.ensures, c.saturating_sub.ensures) at c.format.ensures.ok)
