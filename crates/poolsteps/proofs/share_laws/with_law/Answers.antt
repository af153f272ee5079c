use Rattle.poolsteps.proofs.shares.WithPlaces.{with-law}
use Rattle.poolsteps.proofs.share_laws.with_law.Goals as goal

pub returns : goal.returns
returns c = with-law
