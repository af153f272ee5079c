use Rattle.steplaws.proofs.Starts.{start-law}
use Rattle.steplaws.proofs.moment_laws.start_law.Goals as goal

pub returns : goal.returns
returns c = start-law
