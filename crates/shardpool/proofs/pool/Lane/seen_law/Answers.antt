-- The lane's invariant has the law.
use Rattle.std.proofs.Common.{ap, ◌∙◌, sym}
use Rattle.seqpool.specs.Histories.{acts_of}
use Rattle.shardpool.proofs.frame.OneLane.{solo, solo-held}
use Rattle.shardpool.proofs.pool.Lane.seen_law.Goals as goal

pub returns-clause-legal : goal.returns-clause-legal
returns-clause-legal g c = rw (← c.self.view_is) c.self.invariant.1.seat.legal

pub returns-clause-owners : goal.returns-clause-owners
returns-clause-owners g c = rw (← c.self.view_is) c.self.invariant.1.seat.owners

pub returns-clause-own : goal.returns-clause-own
returns-clause-own g c =
    let seat = c.self.invariant.1.seat in
    rw (← c.self.view_is) (seat.own ∙ ap (λ l. acts_of l c.self.inside.hand.me.0.seen) (sym seat.number_is))

pub returns-clause-alone : goal.returns-clause-alone
returns-clause-alone g c = rw (← c.self.view_is) (solo c.self.inside.state.shape c.self.inside.hand.me.0 c.self.inside.state.number c.self.invariant.1.seat)

pub returns-clause-held : goal.returns-clause-held
returns-clause-held g c = rw (← c.self.view_is) (solo-held c.self.inside.state.shape c.self.inside.hand.me.0 c.self.inside.state.number c.self.invariant.1.seat)

pub returns-clause-number : goal.returns-clause-number
returns-clause-number g c = let seat = c.self.invariant.1.seat in rw (← c.self.view_is) (sym seat.number_is, seat.below)

pub returns-clause-idle : goal.returns-clause-idle
returns-clause-idle g c = rw (← c.self.view_is) c.self.invariant.1.seat.idle

pub returns-clause-rooms : goal.returns-clause-rooms
returns-clause-rooms g c = rw (← c.self.view_is) c.self.invariant.1.seat.paired
