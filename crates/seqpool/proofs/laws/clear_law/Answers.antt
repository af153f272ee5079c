use Rattle.seqpool.proofs.Misses.{clear-law}
use Rattle.seqpool.proofs.laws.clear_law.Goals as goal

pub returns : goal.returns
returns c = clear-law
