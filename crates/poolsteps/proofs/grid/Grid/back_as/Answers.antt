use Rattle.poolsteps.specs.Layout.{spots_at}
use Rattle.std.proofs.Common.{Some, refl, ◌∙◌}
use Rattle.poolsteps.specs.declared.view.Status.TheVariants.{Emptied}
use Rattle.poolsteps.specs.Layout.{slot_index}
use Rattle.poolsteps.specs.Moved.{stored_of}
use Rattle.poolsteps.proofs.Carrying.{first-held, one-lifted, hand-lifted, may-lifted, store-lifted, leaves-share, backs}
use Rattle.poolsteps.proofs.grid.Grid.back_as.Goals as goal

pub slot_of-slot-requires : goal.slot_of-slot-requires
slot_of-slot-requires g c = record { spot = c.requires.spot; number = c.requires.lanes.1 }

pub lift-requires : goal.lift-requires
lift-requires g c = record {
  aim = (refl {a = c.args.self.now.shape}, refl {a = c.args.self.now.objects.ptr}, refl {a = c.args.spot.place}, refl {a = c.args.number}, λ bad. cc bad);
  hand = c.requires.hand;
  spot = c.requires.spot;
  lanes = c.requires.lanes;
  may = c.requires.may;
  left = c.requires.left;
}

pub exchange-requires : goal.exchange-requires
exchange-requires g c = (
  c.lift.ensures.hand.0 ∙ c.requires.hand.0,
  (
    c.lift.ensures.lifts.value,
    first-held (slot_index c.args.self.now.shape c.args.spot.place c.args.number) c.slot_of-slot.result c.slot_of-slot.ensures c.lift.ensures.lifts.held,
  ),
)

pub lay-requires : goal.lay-requires
lay-requires g c =
    let share = c.args.share in record {
      aim = (refl {a = c.args.self.now.shape}, refl {a = c.args.self.now.objects.ptr}, refl {a = c.args.spot.place}, refl {a = c.args.number});
      hand = (
        c.exchange.ensures.0 ∙ (c.lift.ensures.hand.0 ∙ c.requires.hand.0),
        rw c.exchange.ensures.3 (one-lifted g.T.Clear.content g.T.Clear.room (spots_at c.args.self.now.objects.ptr c.args.self.now.shape) c.args.self.now.shape c.args.spot.place c.args.number Emptied c.args.hand.now.me c.lift.new.hand.me c.lift.ensures.lifts),
      );
      spot = c.requires.spot;
      lanes = c.requires.lanes;
      may = rw c.exchange.ensures.3 (may-lifted g.T.Clear.content g.T.Clear.room (spots_at c.args.self.now.objects.ptr c.args.self.now.shape) c.args.self.now.shape c.args.spot.place c.args.number Emptied c.args.hand.now.me c.lift.new.hand.me c.lift.ensures.lifts c.requires.may);
      left = rw c.exchange.ensures.3 (hand-lifted g.T.Clear.content g.T.Clear.room (spots_at c.args.self.now.objects.ptr c.args.self.now.shape) c.args.self.now.shape c.args.spot.place c.args.number Emptied c.args.hand.now.me c.lift.new.hand.me c.lift.ensures.lifts);
      value = rw (c.exchange.ensures.3, c.slot_of-slot.ensures, c.filled.ensures) (
        Some share,
        refl,
        leaves-share g.T.Clear.content g.T.Clear.room (spots_at c.args.self.now.objects.ptr c.args.self.now.shape) c.args.spot.place c.args.self.now.shape c.args.number (stored_of g.T.Clear.content g.T.Clear.room share) g.J.Move.status share c.requires.share,
      );
      cell = rw (c.exchange.ensures.3, c.filled.ensures)
          (store-lifted g.T.Clear.content g.T.Clear.room (spots_at c.args.self.now.objects.ptr c.args.self.now.shape) c.args.self.now.shape c.args.spot.place c.args.number Emptied c.args.hand.now.me c.lift.new.hand.me c.lift.ensures.lifts refl c.requires.may (stored_of g.T.Clear.content g.T.Clear.room share) c.requires.cell);
    }

pub returns-clause-hand : goal.returns-clause-hand
returns-clause-hand g c =
    let first = c.lift.ensures.hand in
    let second = c.exchange.ensures in
    let last = c.lay.ensures.hand in (last.0 ∙ (second.0 ∙ first.0), last.1 ∙ (second.1 ∙ first.1))

pub returns-clause-backs : goal.returns-clause-backs
returns-clause-backs g c =
    let exchanged = rw (c.slot_of-slot.ensures, c.filled.ensures) at c.exchange.ensures.3 in
    backs g.T.Clear.content g.T.Clear.room (spots_at c.args.self.now.objects.ptr c.args.self.now.shape) c.args.self.now.shape c.args.spot.place c.args.number Emptied c.args.hand.now.me c.lift.new.hand.me c.lift.ensures.lifts
    refl c.args.share g.J.Move.status c.lay.new.hand.me (rw exchanged at c.lay.ensures.lays)
