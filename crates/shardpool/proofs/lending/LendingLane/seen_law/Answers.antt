-- The lane's invariant has the law.
use Rattle.std.proofs.Common.{ap, ◌∙◌, sym}
use Rattle.seqpool.specs.Histories.{acts_of}
use Rattle.shardpool.proofs.lending.LendingLane.seen_law.Goals as goal

pub returns-clause-legal : goal.returns-clause-legal
returns-clause-legal g c = rw (← c.self.view_is) c.self.invariant.1.fits.seat.legal

pub returns-clause-own : goal.returns-clause-own
returns-clause-own g c =
    let seat = c.self.invariant.1.fits.seat in
    rw (← c.self.view_is) (seat.own ∙ ap (λ l. acts_of l c.self.inside.hand.me.0.seen) (sym seat.number_is))
