use Rattle.std.proofs.Common.{append_assoc}
use Rattle.poolprogram.proofs.check.illegal_line.Goals as goal

pub returns : goal.returns
returns c = simp append_assoc (simp (c.number-number.ensures, c.name-name.ensures) at c.format.ensures.ok)
