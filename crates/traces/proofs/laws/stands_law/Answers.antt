use Rattle.traces.proofs.Throughout.{stands-law}
use Rattle.traces.proofs.laws.stands_law.Goals as goal

pub returns : goal.returns
returns c = stands-law
