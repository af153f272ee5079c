use Rattle.traces.proofs.TextLemmas.{prefix_before, on_err}
use Rattle.traces.proofs.text.write_trace.Goals as goal

pub returns-in_err-write_turn-clause-err : goal.returns-in_err-write_turn-clause-err
returns-in_err-write_turn-clause-err c = on_err _ (prefix_before _ _ _ _ c.loop-turn.invariant c.in_err-write_turn.ensures.err)
