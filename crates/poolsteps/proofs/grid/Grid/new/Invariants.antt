-- The hands so far are those of the first lanes, and the seat has the others.
use Rattle.std.proofs.Common.{◌≡◌}
use Rattle.std.specs.Vec.{vec_capacity}
use Rattle.poolsteps.proofs.Dealing.{AreDealt}
use Rattle.poolsteps.proofs.grid.Grid.new.Given as goal

abbrev pub invariant-loop : goal.invariant-loop
invariant-loop g l = AreDealt l.grid l.counter l.seat l.hands.items × (vec_capacity l.hands ≡ vec_capacity l.initial.hands)
