-- The lanes that are here are the pool's, and cleared nothing.
use Rattle.std.proofs.Common.{◌≡◌, []}
use Rattle.guards.specs.Here.{HaveCleared}
use Rattle.relaysample.proofs.give_desks.Given as goal

abbrev pub invariant-loop : goal.invariant-loop
invariant-loop g l = record { pool : l.lanes.pool ≡ l.fn.lanes.pool; cleared : HaveCleared [] l.lanes }
