use Rattle.std.proofs.Common.{◌≡◌, ◌++◌, drop}
use Rattle.schedules.proofs.Stopping.{stopped}
use Rattle.schedules.proofs.stop.stop_after.Given as goal

-- the entries so far, and those that are kept of the rest, are all that are kept
abbrev pub invariant-loop-entry : goal.invariant-loop-entry
invariant-loop-entry l = l.entries.items ++ stopped l.lane l.left (drop l.entry-index l.schedule) ≡ stopped l.lane l.k l.schedule
