use Rattle.std.proofs.Common.{sym, ◌∙◌, subst}
use Rattle.keybits.specs.declared.shape.Shape.{Shape}
use Rattle.poolsteps.specs.Grids.{IsSpot}
use Rattle.seatcalls.specs.Carried.{AreEmptied}
use Rattle.seatcalls.specs.Visitors.{HasClaimedPlace}
use Rattle.poolsteps.specs.Views.{the_lane}
use Rattle.seatcalls.proofs.parts.Ending.{room-still}
use Rattle.seatcalls.proofs.parts.Standing.{stands-in}
use Rattle.seatcalls.proofs.parts.Visiting.{claimed-moved}
use Rattle.seatcalls.proofs.claimed.keep.Goals as goal

pub invariant_of-result : goal.invariant_of-result
invariant_of-result g c =
    let took = c.take_cell-whole.ensures in
    let same = sym c.requires.shape in
    let moved = claimed-moved c.requires.claimed took.moves.carries took.moves.place in (
      took.moves.carries.held ∙ c.requires.act.bare,
      subst (λ (z : Shape). IsSpot z c.args.spot c.args.spot.place) same c.requires.act.spot,
      stands-in c.requires.act.spot took.cell.2,
      subst (λ (z : Shape). AreEmptied z (the_lane c.take_cell-whole.new.hand.me.0) c.args.spot.place) same took.slots,
      subst (λ (z : Shape). HasClaimedPlace z c.take_cell-whole.new.hand.me.0 c.args.number c.args.spot.place c.args.generation) same moved,
    )

pub returns-clause-room : goal.returns-clause-room
returns-clause-room g c = room-still c.take_cell-whole.ensures.moves.carries c.shares_law.ensures.stays c.args.spot.place c.requires.claimed.has
