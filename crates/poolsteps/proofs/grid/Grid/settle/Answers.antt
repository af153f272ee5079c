use Rattle.poolsteps.specs.Layout.{spots_at}
use Rattle.std.proofs.Common.{refl, ◌∙◌}
use Rattle.poolsteps.specs.Views.{the_lane, known_of}
use Rattle.poolsteps.specs.declared.view.Status.TheVariants.{Emptied}
use Rattle.poolsteps.specs.Layout.{slot_index}
use Rattle.poolsteps.proofs.Carrying.{first-held, one-lifted, hand-lifted, may-lifted, leaves-given, stores-given, settles}
use Rattle.poolsteps.proofs.grid.Grid.settle.Goals as goal

pub slot_of-slot-requires : goal.slot_of-slot-requires
slot_of-slot-requires g c = record { spot = c.requires.spot; number = c.requires.lanes.1 }

pub lift-requires : goal.lift-requires
lift-requires g c = record {
  aim = (refl {a = c.args.self.now.shape}, refl {a = c.args.self.now.objects.ptr}, refl {a = c.args.spot.place}, refl {a = c.args.number}, λ bad. cc bad);
  hand = c.requires.hand;
  spot = c.requires.spot;
  lanes = c.requires.lanes;
  may = c.requires.may;
  left = c.requires.left;
}

pub exchange-requires : goal.exchange-requires
exchange-requires g c = (
  c.lift.ensures.hand.0 ∙ c.requires.hand.0,
  (
    c.lift.ensures.lifts.value,
    first-held (slot_index c.args.self.now.shape c.args.spot.place c.args.number) c.slot_of-slot.result c.slot_of-slot.ensures c.lift.ensures.lifts.held,
  ),
)

pub lay-requires : goal.lay-requires
lay-requires g c =
    record {
      aim = (refl {a = c.args.self.now.shape}, refl {a = c.args.self.now.objects.ptr}, refl {a = c.args.spot.place}, refl {a = c.args.number});
      hand = (
        c.exchange.ensures.0 ∙ (c.lift.ensures.hand.0 ∙ c.requires.hand.0),
        rw c.exchange.ensures.3 (one-lifted g.T.Clear.content g.T.Clear.room (spots_at c.args.self.now.objects.ptr c.args.self.now.shape) c.args.self.now.shape c.args.spot.place c.args.number Emptied c.args.hand.now.me c.lift.new.hand.me c.lift.ensures.lifts),
      );
      spot = c.requires.spot;
      lanes = c.requires.lanes;
      may = rw c.exchange.ensures.3 (may-lifted g.T.Clear.content g.T.Clear.room (spots_at c.args.self.now.objects.ptr c.args.self.now.shape) c.args.self.now.shape c.args.spot.place c.args.number Emptied c.args.hand.now.me c.lift.new.hand.me c.lift.ensures.lifts c.requires.may);
      left = rw c.exchange.ensures.3 (hand-lifted g.T.Clear.content g.T.Clear.room (spots_at c.args.self.now.objects.ptr c.args.self.now.shape) c.args.self.now.shape c.args.spot.place c.args.number Emptied c.args.hand.now.me c.lift.new.hand.me c.lift.ensures.lifts);
      value = rw (c.exchange.ensures.3, c.slot_of-slot.ensures) (
        c.args.given,
        refl,
        leaves-given g.T.Clear.content g.T.Clear.room (spots_at c.args.self.now.objects.ptr c.args.self.now.shape) c.args.self.now.shape c.args.spot.place c.args.number (known_of (the_lane c.lift.new.hand.me.0) c.args.spot.place) c.args.given c.requires.share,
      );
      cell = rw c.exchange.ensures.3 (stores-given g.T.Clear.content g.T.Clear.room (spots_at c.args.self.now.objects.ptr c.args.self.now.shape) c.args.self.now.shape c.args.spot.place c.args.number c.args.hand.now.me c.lift.new.hand.me c.lift.ensures.lifts c.requires.may c.args.given c.requires.cell);
    }

pub returns-clause-hand : goal.returns-clause-hand
returns-clause-hand g c =
    let first = c.lift.ensures.hand in
    let second = c.exchange.ensures in
    let last = c.lay.ensures.hand in (last.0 ∙ (second.0 ∙ first.0), last.1 ∙ (second.1 ∙ first.1))

pub returns-clause-settles : goal.returns-clause-settles
returns-clause-settles g c =
    let exchanged = rw c.slot_of-slot.ensures at c.exchange.ensures.3 in
    settles g.T.Clear.content g.T.Clear.room (spots_at c.args.self.now.objects.ptr c.args.self.now.shape) c.args.self.now.shape c.args.spot.place c.args.number Emptied c.args.hand.now.me c.lift.new.hand.me c.lift.ensures.lifts
    refl c.args.given c.lay.new.hand.me (rw exchanged at c.lay.ensures.lays)
