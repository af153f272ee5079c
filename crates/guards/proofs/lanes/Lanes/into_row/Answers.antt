-- The lanes of all slots are all lanes.
use Rattle.std.proofs.Common.{sym, subst, arith}
use Rattle.shardpool.specs.Closings.{AreLanes}
use Rattle.guards.specs.Here.{LanesOf, AreHereBelow}
use Rattle.guards.proofs.Slots.{all-some, are-lanes}
use Rattle.guards.proofs.lanes.Lanes.into_row.Goals as goal

pub in_row-requires-clause-full : goal.in_row-requires-clause-full
in_row-requires-clause-full g c =
    let here = subst (λ (shown : LanesOf). AreHereBelow shown shown.pool.shape.lanes) (sym c.self.view_is) c.requires in
    let count = c.self.invariant.1.count in
    all-some c.self.inside.slots.items (λ number low. here number (omega (arith, low, count)))

pub returns-clause-lanes : goal.returns-clause-lanes
returns-clause-lanes g c =
    subst (λ (shown : LanesOf). AreLanes shown.pool c.in_row.result.items) c.self.view_is
    (are-lanes (record { pool = c.self.inside.of.value; slots = c.self.inside.slots.items }) c.in_row.result.items c.self.invariant.1 c.in_row.ensures)
