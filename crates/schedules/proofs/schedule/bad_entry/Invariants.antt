use Rattle.std.proofs.Common.{◌≡◌, ◌+◌, ◌≤◌, length}
use Rattle.schedules.specs.Parts.{parts_of}
use Rattle.schedules.specs.Schedules.{bad_part, bad_entry}
use Rattle.schedules.proofs.schedule.bad_entry.Given as goal

-- the parts so far are entries, and the rest has the first that is none
abbrev pub invariant-loop-front : goal.invariant-loop-front
invariant-loop-front l = record {
  within : l.before + length l.rest ≤ length l.text;
  same : bad_part l.before (parts_of 44 l.rest) ≡ bad_entry l.text;
}

abbrev pub decreases-loop-front : goal.decreases-loop-front
decreases-loop-front l = length l.rest
