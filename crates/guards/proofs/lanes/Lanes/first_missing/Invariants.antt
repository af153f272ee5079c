-- The lanes before this number are here.
use Rattle.guards.specs.Here.{AreHereBelow}
use Rattle.guards.proofs.lanes.Lanes.first_missing.Given as goal

abbrev pub invariant-loop-number : goal.invariant-loop-number
invariant-loop-number g l = AreHereBelow (record { pool = l.self-inside.of.value; slots = l.self-inside.slots.items }) l.number
