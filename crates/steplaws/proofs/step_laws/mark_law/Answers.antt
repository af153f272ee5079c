use Rattle.steplaws.proofs.Marks.{mark-law}
use Rattle.steplaws.proofs.step_laws.mark_law.Goals as goal

pub returns : goal.returns
returns c = mark-law
