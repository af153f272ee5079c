use Rattle.std.proofs.Common.{◌≡◌, ◌++◌, take}
use Rattle.schedules.specs.Schedules.{further_entries}
use Rattle.schedules.proofs.listed.push_further.Given as goal

abbrev pub invariant-loop-entry : goal.invariant-loop-entry
invariant-loop-entry l = l.text.items ≡ l.fn.text.items ++ further_entries (take l.entry-index l.entries)
