-- A note costs a look, which leaves what the lane keeps, and its fillings.
use Rattle.std.proofs.Common.{refl, ◌∙◌}
use Rattle.shardpool.proofs.frame.LaneFrames.{passes-sees}
use Rattle.shardpool.proofs.frame.SeenHistories.{fits-sees, made-still, still-idle, same-chain}
use Rattle.shardpool.proofs.frame.Tellings.{tells}
use Rattle.shardpool.proofs.pool.Pool.tell.Goals as goal

pub invariant_of-lane : goal.invariant_of-lane
invariant_of-lane g c =
    let fits = c.lane.invariant.1 in
    let sees = tells c.note.ensures.hand.1 fits.seat in
    (sees.held ∙ c.lane.invariant.0, fits-sees sees fits)

pub returns-clause-fillings : goal.returns-clause-fillings
returns-clause-fillings g c = λ filling made.
    let fits = c.lane.invariant.1 in
    let sees = tells c.note.ensures.hand.1 fits.seat in
    made-still (passes-sees sees) fits.seat (c.note.ensures.hand.0.0, refl, refl, refl) refl refl c.lane.view_is filling (still-idle sees fits.seat.idle) (same-chain sees) made
