use Rattle.steplaws.proofs.Counts.{count-law}
use Rattle.steplaws.proofs.moment_laws.count_law.Goals as goal

pub returns : goal.returns
returns c = count-law
