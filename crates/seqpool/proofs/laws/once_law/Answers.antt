use Rattle.seqpool.proofs.Gets.{once-law, retired-law}
use Rattle.seqpool.proofs.Misses.{content-law}
use Rattle.seqpool.proofs.laws.once_law.Goals as goal

pub returns-clause-once : goal.returns-clause-once
returns-clause-once c = once-law

pub returns-clause-retired : goal.returns-clause-retired
returns-clause-retired c = retired-law

pub returns-clause-content : goal.returns-clause-content
returns-clause-content c = content-law
