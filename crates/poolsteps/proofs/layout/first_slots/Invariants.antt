use Rattle.std.proofs.Common.{◌≡◌, ◌≤◌, length}
use Rattle.std.specs.Vec.{vec_capacity}
use Rattle.poolsteps.proofs.FirstSlots.{AreNone}
use Rattle.poolsteps.proofs.layout.first_slots.Given as goal

-- so many slots stand there, none of them with a share
abbrev pub invariant-loop : goal.invariant-loop
invariant-loop g l = record { stand : length l.slots.items ≡ l.counter; room : l.count ≤ vec_capacity l.slots; empty : AreNone l.slots.items }
