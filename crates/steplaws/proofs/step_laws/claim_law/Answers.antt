use Rattle.steplaws.proofs.Claims.{claim-own-law, claim-other-law, claim-last-law, claim-fails-law}
use Rattle.steplaws.proofs.step_laws.claim_law.Goals as goal

pub returns-clause-own : goal.returns-clause-own
returns-clause-own c = claim-own-law

pub returns-clause-other : goal.returns-clause-other
returns-clause-other c = claim-other-law

pub returns-clause-last : goal.returns-clause-last
returns-clause-last c = claim-last-law

pub returns-clause-fails : goal.returns-clause-fails
returns-clause-fails c = claim-fails-law
