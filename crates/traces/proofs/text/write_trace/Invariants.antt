use Rattle.std.proofs.Common.{◌≡◌, ◌++◌, take}
use Rattle.traces.specs.Text.{trace_text}
use Rattle.traces.proofs.text.write_trace.Given as goal

abbrev pub invariant-loop-turn : goal.invariant-loop-turn
invariant-loop-turn l = l.out.items ≡ l.fn.out.items ++ trace_text (take l.turn-index l.turn-items)
