-- The place is one of the lane's.
use Rattle.std.proofs.Common.{◌≡◌, length, true, sym, ap, ◌∙◌, subst}
use Rattle.keybits.specs.Keys.{place_of}
use Rattle.keybits.specs.Shapes.{is_place}
use Rattle.poolsteps.specs.Layout.{slot_start}
use Rattle.poolsteps.specs.Objects.{ObjectsOf}
use Rattle.shardpool.specs.LaneStates.{Fits}
use Rattle.shardpool.specs.Tokens.{LaneOf}
use Rattle.shardpool.proofs.free.Words.{word-low, word-high}
use Rattle.shardpool.proofs.pool.Lane.leave.Goals as goal

pub bring_back-requires-clause-start : goal.bring_back-requires-clause-start
bring_back-requires-clause-start g c =
    let s = c.self.inside.state in
    let fits = c.self.invariant.1 in
    let place = place_of c.args.filling.key in
    let own = c.requires.place.own ∙ sym (ap (λ (lane : LaneOf). lane.number) c.self.view_is) in
    let here = c.spend-start.ensures.1 ∙ (c.requires.start ∙ ap (λ (lane : LaneOf). slot_start lane.shape place) (sym c.self.view_is)) in
    let inside : is_place s.shape place ≡ true = subst (λ (lane : LaneOf). is_place lane.shape place ≡ true) (sym c.self.view_is) c.requires.place.inside in (
      word-low s.shape place s.number c.spend-start.result.1 s.objects.first own here fits.rights.first_is,
      word-high s.shape place s.number c.spend-start.result.1 s.objects.first own here fits.rights.first_is inside (length s.objects.items) fits.stores.narrow,
    )

pub invariant_of-self : goal.invariant_of-self
invariant_of-self g c =
    let s = c.self.inside.state in (
      c.self.invariant.0,
      subst (λ (objects : ObjectsOf g.row.T.Denot). Fits g.T.Clear.content g.T.Clear.room s.shape c.self.inside.hand.me.0 (record s { objects = objects })) (sym c.bring_back.ensures) c.self.invariant.1,
    )
