-- The lanes that are left are the pool's, have no reference, and cleared nothing.
use Rattle.std.proofs.Common.{◌≡◌, []}
use Rattle.guards.specs.Here.{HoldNothing, HaveCleared}
use Rattle.relaysample.proofs.add_desks.Given as goal

abbrev pub invariant-loop-number : goal.invariant-loop-number
invariant-loop-number g l = record { pool : l.lanes.pool ≡ l.fn.lanes.pool; nothing : HoldNothing l.lanes; cleared : HaveCleared [] l.lanes }
