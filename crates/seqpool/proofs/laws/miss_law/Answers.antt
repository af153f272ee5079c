use Rattle.seqpool.proofs.Misses.{miss-law}
use Rattle.seqpool.proofs.laws.miss_law.Goals as goal

pub returns : goal.returns
returns c = miss-law
