use Rattle.std.proofs.Common.{◌≡◌, ap, sym, ◌∙◌, subst}
use Rattle.keybits.specs.declared.shape.Shape.{Shape}
use Rattle.seatcalls.specs.Visitors.{FitsGuest, HasNoReference, HasClaimedPlace, ClaimedOf}
use Rattle.seatcalls.proofs.parts.Visiting.{fits-home, bare-home}
use Rattle.seatcalls.proofs.claimed.Claimed.give_back.Goals as goal

pub invariant_of-result : goal.invariant_of-result
invariant_of-result g c =
    let done = c.give_home.ensures in
    let z : Shape = c.args.grid.now.shape in
    let same : c.self.inside.shape.value ≡ z = ap (λ (x : ClaimedOf g.row.T.Denot). x.guest.shape) c.self.view_is ∙ c.requires.grid.0 in
    let claimed = subst (λ (y : Shape). HasClaimedPlace y c.self.inside.hand.me.0 c.self.inside.number c.self.inside.spot.place c.self.inside.generation) same c.self.invariant.4 in (
      done.did.held ∙ c.self.invariant.0,
      record {
        fits = subst (λ (y : Shape). FitsGuest y c.give_home.new.hand.me.0 c.self.inside.number) (sym same) (fits-home claimed done.did done.rests);
        idle = done.idle;
        bare = subst (λ (y : Shape). HasNoReference y c.give_home.new.hand.me.0) (sym same) (bare-home claimed done.did);
      },
    )
