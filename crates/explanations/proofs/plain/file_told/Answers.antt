use Rattle.std.proofs.Common.{append_assoc}
use Rattle.explanations.proofs.plain.file_told.Goals as goal

pub returns : goal.returns
returns c = simp append_assoc (simp (c.in_ok-path.ensures, c.as_bytes.ensures.value, c.text-reason.ensures) at c.format.ensures.ok)
