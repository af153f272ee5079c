use Rattle.poolsteps.proofs.shares.Resting.{collect-share-law}
use Rattle.poolsteps.proofs.share_laws.collect_share_law.Goals as goal

pub returns : goal.returns
returns g c spots = collect-share-law _ _ spots
