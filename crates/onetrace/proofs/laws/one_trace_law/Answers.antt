use Rattle.onetrace.proofs.Turns.{one-trace-law}
use Rattle.onetrace.proofs.laws.one_trace_law.Goals as goal

pub returns : goal.returns
returns c = one-trace-law
