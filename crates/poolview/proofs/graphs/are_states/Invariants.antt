use Rattle.poolview.proofs.GraphLemmas.{AreUpTo}
use Rattle.poolview.proofs.graphs.are_states.Given as goal

abbrev pub invariant-loop-number : goal.invariant-loop-number
invariant-loop-number l = AreUpTo l.lanes l.states l.outcomes l.number l.values
