use Rattle.poolsteps.proofs.Keeping.{shares-law, held-law, filling-law}
use Rattle.poolsteps.proofs.laws.shares_law.Goals as goal

pub returns-clause-stays : goal.returns-clause-stays
returns-clause-stays c = shares-law

pub returns-clause-held : goal.returns-clause-held
returns-clause-held c = held-law

pub returns-clause-fills : goal.returns-clause-fills
returns-clause-fills c = filling-law
