-- Without the first the hand has the others.
use Rattle.shardpool.proofs.calls.Openings.{others-undealt}
use Rattle.shardpool.proofs.guests.deal_first.Goals as goal
use Rattle.std.proofs.Common.{◌∙◌, sym}

pub returns-clause-others : goal.returns-clause-others
returns-clause-others g c =
    let hand = c.deal-first.ensures in
    others-undealt c.args.grid.now c.args.next c.args.all c.deal-first.new.seat c.requires.all (λ same. c.if-next-callers.false (same ∙ sym c.requires.callers)) hand.rest.0 hand.rest.1
