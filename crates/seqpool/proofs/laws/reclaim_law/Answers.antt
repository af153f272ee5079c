use Rattle.seqpool.proofs.Gets.{alone-law}
use Rattle.seqpool.proofs.Tallies.{reclaim-law}
use Rattle.seqpool.proofs.laws.reclaim_law.Goals as goal

pub returns-clause-given_back : goal.returns-clause-given_back
returns-clause-given_back c = reclaim-law

pub returns-clause-alone : goal.returns-clause-alone
returns-clause-alone c = alone-law
