use Rattle.steplaws.proofs.Counts.{returner-law}
use Rattle.steplaws.proofs.Stays.{home-stays-law}
use Rattle.steplaws.proofs.moment_laws.home_law.Goals as goal

pub returns-clause-returner : goal.returns-clause-returner
returns-clause-returner c = returner-law

pub returns-clause-stays : goal.returns-clause-stays
returns-clause-stays c = home-stays-law
