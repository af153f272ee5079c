use Rattle.std.proofs.Common.{arith, rules}
use Rattle.poolview.proofs.GraphLemmas.{one-more, not-all, all-are}
use Rattle.poolview.proofs.graphs.are_states.Goals as goal

pub loop-number-preserved : goal.loop-number-preserved
loop-number-preserved c =
    one-more c.args.lanes c.args.states c.args.outcomes c.loop-number.number c.index-values-number.result c.args.values.now c.loop-number-test.true
    c.index-values-number.is c.loop-number.invariant (search rules)

pub returns : goal.returns
returns c = all-are c.args.lanes c.args.states c.args.outcomes c.loop-number.number c.args.values.now (omega arith) c.loop-number.invariant
