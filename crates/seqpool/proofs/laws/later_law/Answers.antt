use Rattle.seqpool.proofs.Misses.{later-law}
use Rattle.seqpool.proofs.laws.later_law.Goals as goal

pub returns : goal.returns
returns c = later-law
