use Rattle.steplaws.proofs.Bits.{return-law}
use Rattle.steplaws.proofs.step_laws.return_law.Goals as goal

pub returns : goal.returns
returns c = return-law
