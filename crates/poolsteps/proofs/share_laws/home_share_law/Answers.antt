use Rattle.poolsteps.proofs.shares.Resting.{home-share-law}
use Rattle.poolsteps.proofs.share_laws.home_share_law.Goals as goal

pub returns : goal.returns
returns g c spots = home-share-law _ _ spots
