use Rattle.steplaws.proofs.LinkLaws.{link-law}
use Rattle.steplaws.proofs.step_laws.link_law.Goals as goal

pub returns : goal.returns
returns c = link-law
