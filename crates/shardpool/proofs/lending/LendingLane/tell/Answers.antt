-- A note costs a look, which leaves what the lane keeps, and what it lent.
use Rattle.std.proofs.Common.{◌∙◌}
use Rattle.shardpool.proofs.frame.SeenHistories.{fits-sees}
use Rattle.shardpool.proofs.frame.Tellings.{tells}
use Rattle.shardpool.proofs.calls.Loans.{loans-seen}
use Rattle.shardpool.proofs.lending.LendingLane.tell.Goals as goal

pub invariant_of-self : goal.invariant_of-self
invariant_of-self g c =
    let lending = c.self.invariant.1 in
    let sees = tells c.note.ensures.hand.1 lending.fits.seat in
    (sees.held ∙ c.self.invariant.0, record { rows = lending.rows; fits = fits-sees sees lending.fits; bare = lending.bare })

pub returns-clause-kept : goal.returns-clause-kept
returns-clause-kept g c =
    let fits = c.self.invariant.1.fits in
    rw (← c.self.view_is) (loans-seen (tells c.note.ensures.hand.1 fits.seat) fits c.self.inside.hand.table_id c.note.new.hand.table_id c.note.ensures.hand.0.0)
