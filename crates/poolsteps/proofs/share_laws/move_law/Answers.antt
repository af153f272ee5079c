use Rattle.poolsteps.proofs.shares.Moving.{move-law}
use Rattle.poolsteps.proofs.share_laws.move_law.Goals as goal

pub returns : goal.returns
returns g c spots = move-law _ _ spots
