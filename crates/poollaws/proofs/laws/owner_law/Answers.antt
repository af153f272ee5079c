use Rattle.poollaws.proofs.Kept.{owner}
use Rattle.poollaws.proofs.laws.owner_law.Goals as goal

pub returns : goal.returns
returns g c = owner
