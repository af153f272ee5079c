use Rattle.poolsteps.specs.Layout.{spots_at}
use Rattle.std.proofs.Common.{inl, None, refl, ◌∙◌, ap}
use Rattle.poolsteps.specs.Layout.{slot_index}
use Rattle.poolsteps.proofs.Carrying.{first_value, first-held, one-lifted, hand-lifted, full-lifted, may-lifted, outs}
use Rattle.poolsteps.proofs.grid.Grid.out_as.Goals as goal

pub slot_of-slot-requires : goal.slot_of-slot-requires
slot_of-slot-requires g c = record { spot = c.requires.spot; number = c.requires.lanes.1 }

pub lift-requires : goal.lift-requires
lift-requires g c = record {
  aim = (refl {a = c.args.self.now.shape}, refl {a = c.args.self.now.objects.ptr}, refl {a = c.args.spot.place}, refl {a = c.args.number}, c.requires.aim.0);
  hand = c.requires.hand;
  spot = c.requires.spot;
  lanes = c.requires.lanes;
  may = c.requires.may;
  left = c.requires.left;
}

pub exchange-requires : goal.exchange-requires
exchange-requires g c = (
  c.lift.ensures.hand.0 ∙ c.requires.hand.0,
  (
    c.lift.ensures.lifts.value,
    first-held (slot_index c.args.self.now.shape c.args.spot.place c.args.number) c.slot_of-slot.result c.slot_of-slot.ensures c.lift.ensures.lifts.held,
  ),
)

pub into_share-share-requires : goal.into_share-share-requires
into_share-share-requires g c =
    full-lifted g.T.Clear.content g.T.Clear.room (spots_at c.args.self.now.objects.ptr c.args.self.now.shape) c.args.self.now.shape c.args.spot.place c.args.number g.J.Move.status c.args.hand.now.me c.lift.new.hand.me c.lift.ensures.lifts
    c.requires.aim.0 c.requires.aim.1 c.exchange.result (ap first_value c.exchange.ensures.2)

pub lay-requires : goal.lay-requires
lay-requires g c = record {
  aim = (refl {a = c.args.self.now.shape}, refl {a = c.args.self.now.objects.ptr}, refl {a = c.args.spot.place}, refl {a = c.args.number});
  hand = (
    c.exchange.ensures.0 ∙ (c.lift.ensures.hand.0 ∙ c.requires.hand.0),
    rw c.exchange.ensures.3 (one-lifted g.T.Clear.content g.T.Clear.room (spots_at c.args.self.now.objects.ptr c.args.self.now.shape) c.args.self.now.shape c.args.spot.place c.args.number g.J.Move.status c.args.hand.now.me c.lift.new.hand.me c.lift.ensures.lifts),
  );
  spot = c.requires.spot;
  lanes = c.requires.lanes;
  may = rw c.exchange.ensures.3 (may-lifted g.T.Clear.content g.T.Clear.room (spots_at c.args.self.now.objects.ptr c.args.self.now.shape) c.args.self.now.shape c.args.spot.place c.args.number g.J.Move.status c.args.hand.now.me c.lift.new.hand.me c.lift.ensures.lifts c.requires.may);
  left = rw c.exchange.ensures.3 (hand-lifted g.T.Clear.content g.T.Clear.room (spots_at c.args.self.now.objects.ptr c.args.self.now.shape) c.args.self.now.shape c.args.spot.place c.args.number g.J.Move.status c.args.hand.now.me c.lift.new.hand.me c.lift.ensures.lifts);
  value = rw (c.exchange.ensures.3, c.slot_of-slot.ensures, c.empty.ensures) (None, refl, refl);
  cell = inl refl;
}

pub returns-clause-hand : goal.returns-clause-hand
returns-clause-hand g c =
    let first = c.lift.ensures.hand in
    let second = c.exchange.ensures in
    let last = c.lay.ensures.hand in (last.0 ∙ (second.0 ∙ first.0), last.1 ∙ (second.1 ∙ first.1))

pub returns-clause-outs : goal.returns-clause-outs
returns-clause-outs g c =
    let exchanged = rw (c.slot_of-slot.ensures, c.empty.ensures) at c.exchange.ensures.3 in
    outs g.T.Clear.content g.T.Clear.room (spots_at c.args.self.now.objects.ptr c.args.self.now.shape) c.args.self.now.shape c.args.spot.place c.args.number g.J.Move.status c.args.hand.now.me c.lift.new.hand.me c.lift.ensures.lifts
    c.requires.aim.0 c.requires.aim.1 c.requires.may c.into_share-share.result (ap first_value c.exchange.ensures.2 ∙ c.into_share-share.ensures)
    c.lay.new.hand.me (rw exchanged at c.lay.ensures.lays)
