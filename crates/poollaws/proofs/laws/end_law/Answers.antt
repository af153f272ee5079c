use Rattle.poollaws.proofs.Ends.{end-law}
use Rattle.poollaws.proofs.laws.end_law.Goals as goal

pub returns : goal.returns
returns c = end-law
