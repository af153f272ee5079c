use Rattle.poolsteps.proofs.shares.Publishing.{publish-share-law}
use Rattle.poolsteps.proofs.share_laws.publish_share_law.Goals as goal

pub returns : goal.returns
returns g c spots = publish-share-law g.T.Clear.content g.T.Clear.room spots
