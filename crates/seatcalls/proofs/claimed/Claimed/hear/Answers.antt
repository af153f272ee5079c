-- A look leaves the place claimed.
use Rattle.std.proofs.Common.{◌≡◌, List, [], refl, ap, sym, ◌∙◌, subst, arith}
use Rattle.keybits.specs.declared.shape.Shape.{Shape}
use Rattle.poolsteps.specs.Shares.{room_of}
use Rattle.poolsteps.specs.Views.{head_record, status_of}
use Rattle.poolsteps.specs.declared.view.LaneRecord.{LaneRecord}
use Rattle.seatcalls.specs.Visitors.{GuestOf, ClaimedOf, Visits}
use Rattle.poolsteps.specs.Told.{Sees}
use Rattle.seatcalls.proofs.parts.Doing.{did-sees}
use Rattle.seatcalls.proofs.parts.Moves.{carries-sees, carried-place}
use Rattle.seatcalls.proofs.parts.Ending.{room-still}
use Rattle.seatcalls.proofs.parts.Visiting.{claimed-moved, visits-did}
use Rattle.seatcalls.proofs.claimed.Claimed.hear.Given.{Over}
use Rattle.seatcalls.proofs.claimed.Claimed.hear.Goals as goal
use Rattle.seatcalls.proofs.claimed.Claimed.hear.Goals.{After-hear}

-- the look, by the guest's shape
looks : (g : Over) (c : After-hear g) → Sees c.self.inside.shape.value c.self.inside.hand.me c.hear.new.hand.me
looks g c = subst (λ (z : Shape). Sees z c.self.inside.hand.me c.hear.new.hand.me)
    (sym (ap (λ (x : ClaimedOf g.row.T.Denot). x.guest.shape) c.self.view_is ∙ c.requires.of.1)) c.hear.ensures.sees

pub invariant_of-self : goal.invariant_of-self
invariant_of-self g c =
    let sees = looks g (goal.at.invariant_of-self g c).After-hear in
    let was = c.self.invariant in
    let carries = carries-sees c.self.inside.spot.place sees in (
      sees.held ∙ was.0,
      was.1,
      was.2,
      λ number below. ap (λ (lanes : List LaneRecord). status_of (head_record lanes) c.self.inside.spot.place number) sees.goes.lanes ∙ was.3 number below,
      claimed-moved was.4 carries (carried-place carries c.shares_law.ensures.stays c.self.inside.spot.place was.4.has),
    )

pub returns-clause-room : goal.returns-clause-room
returns-clause-room g c =
    let sees = looks g (goal.at.returns-clause-room g c).After-hear in
    let carries = carries-sees c.self.inside.spot.place sees in
    subst (λ (x : ClaimedOf g.row.T.Denot). room_of c.hear.new.hand.me.0.seen c.hear.new.hand.me.0.rooms x.place ≡ room_of x.guest.book.seen x.guest.book.rooms x.place)
    c.self.view_is (room-still carries c.shares_law.ensures.stays c.self.inside.spot.place c.self.invariant.4.has)

pub returns-clause-goes : goal.returns-clause-goes
returns-clause-goes g c =
    let sees = looks g (goal.at.returns-clause-goes g c).After-hear in
    let now : GuestOf = record { table = c.hear.new.hand.table_id; shape = c.self.inside.shape.value; number = c.self.inside.number; book = c.hear.new.hand.me.0 } in
    subst (λ (old : GuestOf). Visits [] 0 1 old now) (ap (λ (x : ClaimedOf g.row.T.Denot). x.guest) c.self.view_is)
    (visits-did (did-sees {place = c.self.inside.spot.place} sees) c.hear.ensures.hand.0 refl refl (omega arith) (omega arith))
