use Rattle.poolsteps.proofs.shares.Acting.{acts-share-law}
use Rattle.poolsteps.proofs.share_laws.acts_share_law.Goals as goal

pub returns : goal.returns
returns g c spots = acts-share-law g.T.Clear.content g.T.Clear.room spots
