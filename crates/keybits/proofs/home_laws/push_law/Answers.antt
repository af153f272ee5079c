use Rattle.keybits.proofs.HomeLemmas.{push-law}
use Rattle.keybits.proofs.home_laws.push_law.Goals as goal

pub returns : goal.returns
returns c = push-law
