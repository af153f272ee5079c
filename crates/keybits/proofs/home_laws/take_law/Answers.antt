use Rattle.keybits.proofs.HomeLemmas.{take-law}
use Rattle.keybits.proofs.home_laws.take_law.Goals as goal

pub returns : goal.returns
returns c = take-law
