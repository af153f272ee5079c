-- A look leaves what the lane keeps, and its fillings.
use Rattle.std.proofs.Common.{refl, sym, ◌∙◌, subst}
use Rattle.keybits.specs.declared.shape.Shape.{Shape}
use Rattle.poolsteps.specs.Told.{Sees}
use Rattle.shardpool.proofs.frame.LaneFrames.{passes-sees}
use Rattle.shardpool.proofs.frame.SeenHistories.{same-shape, fits-sees, did-none, made-still, still-idle, same-chain}
use Rattle.shardpool.proofs.references.Holdings.{did-none-refs}
use Rattle.shardpool.proofs.pool.Pool.hear.Goals as goal

pub invariant_of-lane : goal.invariant_of-lane
invariant_of-lane g c =
    let sees = subst (λ (z : Shape). Sees z c.lane.inside.hand.me c.hear.new.hand.me) (same-shape c.lane.view_is c.requires.owns.1 c.self.view_is) c.hear.ensures.sees in
    (sees.held ∙ c.lane.invariant.0, fits-sees sees c.lane.invariant.1)

pub returns-clause-goes : goal.returns-clause-goes
returns-clause-goes g c =
    let sees = subst (λ (z : Shape). Sees z c.lane.inside.hand.me c.hear.new.hand.me) (same-shape c.lane.view_is c.requires.owns.1 c.self.view_is) c.hear.ensures.sees in
    did-none (passes-sees sees) c.lane.invariant.1.seat (c.hear.ensures.hand.0, refl, refl, refl) refl refl c.lane.view_is

pub returns-clause-heard : goal.returns-clause-heard
returns-clause-heard g c = let goes = (returns-clause-goes g c).goes in (rw (← c.note.view_is) c.hear.ensures.heard.acts, (goes.more, sym goes.seen))

pub returns-clause-rooms : goal.returns-clause-rooms
returns-clause-rooms g c = let goes = (returns-clause-goes g c).goes in (rw (← c.note.view_is) c.hear.ensures.heard.rooms, (goes.kept, sym goes.rooms))

pub returns-clause-fillings : goal.returns-clause-fillings
returns-clause-fillings g c = λ filling made.
    let sees = subst (λ (z : Shape). Sees z c.lane.inside.hand.me c.hear.new.hand.me) (same-shape c.lane.view_is c.requires.owns.1 c.self.view_is) c.hear.ensures.sees in
    let fits = c.lane.invariant.1 in
    made-still (passes-sees sees) fits.seat (c.hear.ensures.hand.0, refl, refl, refl) refl refl c.lane.view_is filling (still-idle sees fits.seat.idle) (same-chain sees) made

pub returns-clause-refs : goal.returns-clause-refs
returns-clause-refs g c = did-none-refs (returns-clause-goes g c)

pub returns-clause-held : goal.returns-clause-held
returns-clause-held g c = (returns-clause-goes g c).held

pub returns-clause-looks : goal.returns-clause-looks
returns-clause-looks g c = rw (← c.lane.view_is) c.hear.ensures.sees.looks
