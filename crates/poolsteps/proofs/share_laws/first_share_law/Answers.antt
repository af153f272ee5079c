use Rattle.poolsteps.proofs.shares.Starting.{first-share-law}
use Rattle.poolsteps.proofs.share_laws.first_share_law.Goals as goal

pub returns : goal.returns
returns g c spots = first-share-law g.T.Clear.content g.T.Clear.room spots
