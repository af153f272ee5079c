use Rattle.poolsteps.proofs.shares.Rights.{rights-law}
use Rattle.poolsteps.proofs.share_laws.rights_law.Goals as goal

pub returns : goal.returns
returns c = rights-law
