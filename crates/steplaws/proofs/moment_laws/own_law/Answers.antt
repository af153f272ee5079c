use Rattle.steplaws.proofs.Stays.{own-law}
use Rattle.steplaws.proofs.moment_laws.own_law.Goals as goal

pub returns : goal.returns
returns c = own-law
