use Rattle.steplaws.proofs.TakeLaws.{follow-law}
use Rattle.steplaws.proofs.step_laws.follow_law.Goals as goal

pub returns : goal.returns
returns c = follow-law
