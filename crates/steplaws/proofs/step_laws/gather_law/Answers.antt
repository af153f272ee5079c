use Rattle.steplaws.proofs.Bits.{gather-law}
use Rattle.steplaws.proofs.step_laws.gather_law.Goals as goal

pub returns : goal.returns
returns c = gather-law
