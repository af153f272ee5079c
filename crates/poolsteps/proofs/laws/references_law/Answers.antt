use Rattle.poolsteps.proofs.Holding.{references-law}
use Rattle.poolsteps.proofs.laws.references_law.Goals as goal

pub returns : goal.returns
returns c = references-law
