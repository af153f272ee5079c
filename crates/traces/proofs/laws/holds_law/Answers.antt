use Rattle.traces.proofs.Throughout.{holds-law}
use Rattle.traces.proofs.laws.holds_law.Goals as goal

pub returns : goal.returns
returns c = holds-law
