-- A look leaves what the lane keeps, and what it lent.
use Rattle.std.proofs.Common.{refl, sym, ◌∙◌, subst}
use Rattle.keybits.specs.declared.shape.Shape.{Shape}
use Rattle.poolsteps.specs.Told.{Sees}
use Rattle.shardpool.proofs.frame.LaneFrames.{passes-sees}
use Rattle.shardpool.proofs.frame.SeenHistories.{same-shape, fits-sees, did-none}
use Rattle.shardpool.proofs.references.Holdings.{did-none-refs}
use Rattle.shardpool.proofs.calls.Loans.{loans-seen}
use Rattle.shardpool.proofs.lending.LendingLane.hear.Goals as goal

pub invariant_of-self : goal.invariant_of-self
invariant_of-self g c =
    let lending = c.self.invariant.1 in
    let sees = subst (λ (z : Shape). Sees z c.self.inside.hand.me c.hear.new.hand.me) (same-shape c.self.view_is c.requires.owns.1 c.pool.view_is) c.hear.ensures.sees in
    (sees.held ∙ c.self.invariant.0, record { rows = lending.rows; fits = fits-sees sees lending.fits; bare = lending.bare })

pub returns-clause-goes : goal.returns-clause-goes
returns-clause-goes g c =
    let sees = subst (λ (z : Shape). Sees z c.self.inside.hand.me c.hear.new.hand.me) (same-shape c.self.view_is c.requires.owns.1 c.pool.view_is) c.hear.ensures.sees in
    did-none (passes-sees sees) c.self.invariant.1.fits.seat (c.hear.ensures.hand.0, refl, refl, refl) refl refl c.self.view_is

pub returns-clause-heard : goal.returns-clause-heard
returns-clause-heard g c = let goes = (returns-clause-goes g c).goes in (rw (← c.note.view_is) c.hear.ensures.heard.acts, (goes.more, sym goes.seen))

pub returns-clause-rooms : goal.returns-clause-rooms
returns-clause-rooms g c = let goes = (returns-clause-goes g c).goes in (rw (← c.note.view_is) c.hear.ensures.heard.rooms, (goes.kept, sym goes.rooms))

pub returns-clause-refs : goal.returns-clause-refs
returns-clause-refs g c = did-none-refs (returns-clause-goes g c)

pub returns-clause-held : goal.returns-clause-held
returns-clause-held g c = (returns-clause-goes g c).held

pub returns-clause-kept : goal.returns-clause-kept
returns-clause-kept g c =
    let sees = subst (λ (z : Shape). Sees z c.self.inside.hand.me c.hear.new.hand.me) (same-shape c.self.view_is c.requires.owns.1 c.pool.view_is) c.hear.ensures.sees in
    rw (← c.self.view_is) (loans-seen sees c.self.invariant.1.fits c.self.inside.hand.table_id c.hear.new.hand.table_id c.hear.ensures.hand.0)

pub returns-clause-looks : goal.returns-clause-looks
returns-clause-looks g c = rw (← c.self.view_is) c.hear.ensures.sees.looks
