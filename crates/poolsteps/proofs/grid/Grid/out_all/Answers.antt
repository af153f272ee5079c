use Rattle.poolsteps.specs.Layout.{spots_at}
use Rattle.std.proofs.Common.{None, refl, sym, ◌∙◌, subst}
use Rattle.keybits.specs.declared.shape.Shape.{Shape}
use Rattle.poolsteps.specs.declared.view.Status.TheVariants.{Untouched, Emptied}
use Rattle.poolsteps.specs.Batches.{AreLeft, AreOf, GoesAll}
use Rattle.poolsteps.proofs.AllShares.{all-place, goes-again}
use Rattle.poolsteps.proofs.Turning.{rising-order}
use Rattle.poolsteps.proofs.grid.Grid.out_all.Goals as goal

pub lift_all-requires : goal.lift_all-requires
lift_all-requires g c = record {
  aim = (refl {a = c.args.self.now.shape}, refl {a = c.args.self.now.objects.ptr}, refl {a = c.args.spot.place}, rising-order c.args.self.now.shape, λ bad. cc bad);
  hand = c.requires.hand;
  spot = c.requires.spot;
  lane = c.requires.lane;
  place = c.requires.place;
  left = c.requires.left;
}

pub take_all-rest-requires : goal.take_all-rest-requires
take_all-rest-requires g c =
    let lifts = c.lift_all.ensures.lifts in record {
      hand = c.lift_all.ensures.hand.0 ∙ c.requires.hand.0;
      spot = c.requires.spot;
      held = (
        lifts.values,
        subst (λ x. AreLeft g.T.Clear.content g.T.Clear.room (spots_at c.args.self.now.objects.ptr c.args.self.now.shape) c.args.spot.place c.args.self.now.shape Untouched x lifts.values) (sym lifts.goes.leaves.known) lifts.are,
        lifts.held,
      );
    }

pub lay_all-requires : goal.lay_all-requires
lay_all-requires g c =
    let z : Shape = c.args.self.now.shape in
    let lifts = c.lift_all.ensures.lifts in
    let taken = c.take_all-rest.ensures in
    record {
      aim = (refl {a = z}, refl {a = c.args.self.now.objects.ptr}, refl {a = c.args.spot.place}, rising-order z);
      hand = (taken.hand.0 ∙ (c.lift_all.ensures.hand.0 ∙ c.requires.hand.0), rw taken.held lifts.goes.goes.lanes);
      spot = c.requires.spot;
      lane = c.requires.lane;
      place = rw taken.held (all-place lifts.goes c.requires.place);
      left = rw taken.held lifts.goes.leaves.here;
      values = rw taken.held ((λ _. None), (λ number below. refl), refl);
    }

pub returns-clause-hand : goal.returns-clause-hand
returns-clause-hand g c =
    let first = c.lift_all.ensures.hand in
    let second = c.take_all-rest.ensures.hand in
    let last = c.lay_all.ensures.hand in (last.0 ∙ (second.0 ∙ first.0), last.1 ∙ (second.1 ∙ first.1))

pub returns-clause-outs : goal.returns-clause-outs
returns-clause-outs g c =
    let z : Shape = c.args.self.now.shape in
    let lifts = c.lift_all.ensures.lifts in
    let known = lifts.goes.leaves.known in
    let laid = rw c.take_all-rest.ensures.held at c.lay_all.ensures.lays in
    record {
      are = subst (λ x. AreOf g.T.Clear.content g.T.Clear.room (spots_at c.args.self.now.objects.ptr c.args.self.now.shape) c.args.spot.place z x c.take_all-rest.result) known c.take_all-rest.ensures.rest;
      goes = goes-again lifts.goes (subst (λ x. GoesAll z c.args.spot.place Emptied x 1 c.lift_all.new.hand.me.0 c.lay_all.new.hand.me.0) known laid.goes);
      held = laid.held;
    }
