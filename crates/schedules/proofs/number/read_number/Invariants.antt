use Rattle.std.proofs.Common.{◌≡◌, ◌≤◌, length}
use Rattle.schedules.proofs.Numbers.{bounded}
use Rattle.schedules.proofs.number.read_number.Given as goal

-- the number so far goes on as the whole text does, and is within the limit
abbrev pub invariant-loop-byte : goal.invariant-loop-byte
invariant-loop-byte l = (bounded l.limit 0 l.fn.text ≡ bounded l.limit l.number l.rest) × (l.number ≤ l.limit)

abbrev pub decreases-loop-byte : goal.decreases-loop-byte
decreases-loop-byte l = length l.rest
