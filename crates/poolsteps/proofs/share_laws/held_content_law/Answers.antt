use Rattle.poolsteps.proofs.shares.HeldContents.{held-content-law}
use Rattle.poolsteps.proofs.share_laws.held_content_law.Goals as goal

pub returns : goal.returns
returns c = held-content-law
