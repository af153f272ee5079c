use Rattle.poolsteps.specs.Layout.{spots_at}
use Rattle.keybits.specs.Shapes.{callers}
use Rattle.std.proofs.Common.{refl, ap, sym, ◌∙◌, subst, arith}
use Rattle.keybits.specs.declared.shape.Shape.{Shape}
use Rattle.poolsteps.specs.Rest.{lowest_share}
use Rattle.poolsteps.specs.declared.view.Stored.{Stored}
use Rattle.poolsteps.specs.declared.view.Status.TheVariants.{Untouched}
use Rattle.poolsteps.specs.Views.{the_lane, status_of, IsOne}
use Rattle.poolsteps.specs.Told.{HasPlace}
use Rattle.poolsteps.specs.Moved.{stored_of}
use Rattle.poolsteps.specs.Batches.{AreLeft, GoesAll}
use Rattle.poolsteps.proofs.Carrying.{first_value, stored_held}
use Rattle.poolsteps.proofs.AllShares.{all-place, goes-again, first-stored}
use Rattle.poolsteps.proofs.Turning.{falling, falling-order}
use Rattle.poolsteps.proofs.grid.Grid.back_all.Goals as goal

pub lift_all-requires : goal.lift_all-requires
lift_all-requires g c = record {
  aim = (refl {a = c.args.self.now.shape}, refl {a = c.args.self.now.objects.ptr}, refl {a = c.args.spot.place}, falling-order c.args.self.now.shape, λ bad. cc bad);
  hand = c.requires.hand;
  spot = c.requires.spot;
  lane = c.requires.lane;
  place = c.requires.place;
  left = c.requires.left;
}

pub put_all-requires : goal.put_all-requires
put_all-requires g c =
    let lifts = c.lift_all.ensures.lifts in record {
      hand = c.lift_all.ensures.hand.0 ∙ c.requires.hand.0;
      spot = c.requires.spot;
      held = (lifts.values, lifts.held);
      rest = record { number_is = c.requires.rest.0; of_is = c.requires.rest.1; spot_is = c.requires.rest.2; cell_is = refl };
    }

pub lay_all-requires : goal.lay_all-requires
lay_all-requires g c =
    let z : Shape = c.args.self.now.shape in
    let some = c.args.self.now.checked.lanes.0 in
    let lifts = c.lift_all.ensures.lifts in
    let put = c.put_all.ensures in
    let book = sym put.hand.1 in
    let values = put.held.0 in
    let stored = ap (λ xs. stored_held g.T.Clear.content g.T.Clear.room (first_value xs)) put.held.2
    ∙ first-stored g.T.Clear.content g.T.Clear.room (spots_at c.args.self.now.objects.ptr c.args.self.now.shape) z (stored_of g.T.Clear.content g.T.Clear.room (lowest_share c.args.rest)) c.args.spot.place (callers z) (falling z) values
    put.held.1 (omega (arith, some)) (omega (arith, some)) in
    record {
      aim = (refl {a = z}, refl {a = c.args.self.now.objects.ptr}, refl {a = c.args.spot.place}, falling-order z);
      hand = (put.hand.0.0 ∙ (c.lift_all.ensures.hand.0 ∙ c.requires.hand.0), subst (λ v. IsOne v) book lifts.goes.goes.lanes);
      spot = c.requires.spot;
      lane = c.requires.lane;
      place = subst (λ v. HasPlace z v c.args.spot.place) book (all-place lifts.goes c.requires.place);
      left = λ number below. ap (λ v. status_of (the_lane v) c.args.spot.place number) put.hand.1 ∙ lifts.goes.leaves.here number below;
      values = (values, subst (λ (x : Stored). AreLeft g.T.Clear.content g.T.Clear.room (spots_at c.args.self.now.objects.ptr c.args.self.now.shape) c.args.spot.place z Untouched x values) (sym stored) put.held.1, put.held.2);
    }

pub returns-clause-hand : goal.returns-clause-hand
returns-clause-hand g c =
    let first = c.lift_all.ensures.hand in
    let second = c.put_all.ensures.hand.0 in
    let last = c.lay_all.ensures.hand in (last.0 ∙ (second.0 ∙ first.0), last.1 ∙ (second.1 ∙ first.1))

pub returns-clause-backs : goal.returns-clause-backs
returns-clause-backs g c =
    let z : Shape = c.args.self.now.shape in
    let some = c.args.self.now.checked.lanes.0 in
    let lifts = c.lift_all.ensures.lifts in
    let put = c.put_all.ensures in
    let values = put.held.0 in
    let cell : Stored = stored_of g.T.Clear.content g.T.Clear.room (lowest_share c.args.rest) in
    let stored = ap (λ xs. stored_held g.T.Clear.content g.T.Clear.room (first_value xs)) put.held.2
    ∙ first-stored g.T.Clear.content g.T.Clear.room (spots_at c.args.self.now.objects.ptr c.args.self.now.shape) z cell c.args.spot.place (callers z) (falling z) values put.held.1 (omega (arith, some)) (omega (arith, some)) in
    let laid = c.lay_all.ensures.lays in
    let same = subst (λ (x : Stored). GoesAll z c.args.spot.place Untouched x 1 c.put_all.new.hand.me.0 c.lay_all.new.hand.me.0) stored laid.goes in
    record {
      goes = goes-again lifts.goes (subst (λ v. GoesAll z c.args.spot.place Untouched cell 1 v c.lay_all.new.hand.me.0) put.hand.1 same);
      held = laid.held;
    }
