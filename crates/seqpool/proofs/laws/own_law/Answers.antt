use Rattle.seqpool.proofs.Owns.{own-law}
use Rattle.seqpool.proofs.laws.own_law.Goals as goal

pub returns : goal.returns
returns c = own-law
