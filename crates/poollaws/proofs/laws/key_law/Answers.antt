use Rattle.poollaws.proofs.Ends.{key-law}
use Rattle.poollaws.proofs.laws.key_law.Goals as goal

pub returns : goal.returns
returns c = key-law
