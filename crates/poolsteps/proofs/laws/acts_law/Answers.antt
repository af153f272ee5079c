use Rattle.poolsteps.proofs.Holding.{acts-law}
use Rattle.poolsteps.proofs.laws.acts_law.Goals as goal

pub returns : goal.returns
returns c = acts-law
