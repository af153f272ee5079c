use Rattle.seqpool.proofs.Gets.{get-law}
use Rattle.seqpool.proofs.laws.get_law.Goals as goal

pub returns : goal.returns
returns c = get-law
