use Rattle.steplaws.proofs.Counts.{quiet-law}
use Rattle.steplaws.proofs.moment_laws.quiet_law.Goals as goal

pub returns : goal.returns
returns c = quiet-law
