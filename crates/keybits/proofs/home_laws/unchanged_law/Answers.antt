use Rattle.keybits.proofs.HomeLemmas.{unchanged-law}
use Rattle.keybits.proofs.home_laws.unchanged_law.Goals as goal

pub returns : goal.returns
returns c = unchanged-law
