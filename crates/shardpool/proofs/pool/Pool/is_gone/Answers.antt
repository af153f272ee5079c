-- A look leaves what the lane keeps, and its fillings.
use Rattle.std.proofs.Common.{refl, ◌∙◌, subst}
use Rattle.keybits.specs.declared.shape.Shape.{Shape}
use Rattle.poolsteps.specs.Told.{Sees}
use Rattle.shardpool.proofs.frame.LaneFrames.{passes-sees}
use Rattle.shardpool.proofs.frame.SeenHistories.{same-shape, fits-sees, did-none, made-still, still-idle, same-chain}
use Rattle.shardpool.proofs.pool.Pool.is_gone.Goals as goal

pub invariant_of-lane : goal.invariant_of-lane
invariant_of-lane g c =
    let sees = subst (λ (z : Shape). Sees z c.lane.inside.hand.me c.generation.new.hand.me) (same-shape c.lane.view_is c.requires.owns.1 c.self.view_is) c.generation.ensures.sees in
    (sees.held ∙ c.lane.invariant.0, fits-sees sees c.lane.invariant.1)

pub returns-clause-goes : goal.returns-clause-goes
returns-clause-goes g c = λ _.
    let sees = subst (λ (z : Shape). Sees z c.lane.inside.hand.me c.generation.new.hand.me) (same-shape c.lane.view_is c.requires.owns.1 c.self.view_is) c.generation.ensures.sees in
    did-none (passes-sees sees) c.lane.invariant.1.seat (c.generation.ensures.hand.0, refl, refl, refl) refl refl c.lane.view_is

pub returns-clause-held : goal.returns-clause-held
returns-clause-held g c =
    let sees = subst (λ (z : Shape). Sees z c.lane.inside.hand.me c.generation.new.hand.me) (same-shape c.lane.view_is c.requires.owns.1 c.self.view_is) c.generation.ensures.sees in
    let did = did-none (passes-sees sees) c.lane.invariant.1.seat (c.generation.ensures.hand.0, refl, refl, refl) refl refl c.lane.view_is in did.held

pub returns-clause-fillings : goal.returns-clause-fillings
returns-clause-fillings g c = λ filling made.
    let sees = subst (λ (z : Shape). Sees z c.lane.inside.hand.me c.generation.new.hand.me) (same-shape c.lane.view_is c.requires.owns.1 c.self.view_is) c.generation.ensures.sees in
    let fits = c.lane.invariant.1 in
    made-still (passes-sees sees) fits.seat (c.generation.ensures.hand.0, refl, refl, refl) refl refl c.lane.view_is filling (still-idle sees fits.seat.idle) (same-chain sees) made
