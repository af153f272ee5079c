use Rattle.std.proofs.Common.{◌≡◌, length}
use Rattle.schedules.specs.Parts.{parts_of}
use Rattle.schedules.specs.Schedules.{entries_of, schedule_of}
use Rattle.schedules.proofs.Entries.{read_so_far}
use Rattle.schedules.proofs.schedule.read_schedule.Given as goal

-- the entries so far, and those of the rest, are those of the whole text
abbrev pub invariant-loop-front : goal.invariant-loop-front
invariant-loop-front l = schedule_of l.text ≡ read_so_far l.entries.items (entries_of (parts_of 44 l.rest))

abbrev pub decreases-loop-front : goal.decreases-loop-front
decreases-loop-front l = length l.rest
