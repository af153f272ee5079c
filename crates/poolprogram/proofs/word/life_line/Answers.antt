use Rattle.std.proofs.Common.{append_assoc}
use Rattle.poolprogram.proofs.word.life_line.Goals as goal

pub returns : goal.returns
returns c = simp append_assoc (simp c.state_name-name.ensures at c.format.ensures.ok)
