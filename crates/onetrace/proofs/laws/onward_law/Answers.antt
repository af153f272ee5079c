use Rattle.onetrace.proofs.Onward.{onward-law}
use Rattle.onetrace.proofs.laws.onward_law.Goals as goal

pub returns : goal.returns
returns c = onward-law
