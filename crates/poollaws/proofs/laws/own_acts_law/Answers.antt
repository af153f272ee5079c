use Rattle.poollaws.proofs.Kept.{own-acts-law}
use Rattle.poollaws.proofs.laws.own_acts_law.Goals as goal

pub returns : goal.returns
returns c = own-acts-law
