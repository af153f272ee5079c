use Rattle.poolsteps.proofs.shares.Reclaiming.{reclaim-share-law}
use Rattle.poolsteps.proofs.share_laws.reclaim_share_law.Goals as goal

pub returns : goal.returns
returns g c spots = reclaim-share-law g.T.Clear.content g.T.Clear.room spots
