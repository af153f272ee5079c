use Rattle.poolsteps.specs.Layout.{spots_at}
use Rattle.std.proofs.Common.{◌≡◌, ◌≢◌, ◌⊎◌, ⊎_elim, inl, None, refl, ◌∙◌, ap, sym}
use Rattle.poolsteps.specs.declared.view.Status.{Status}
use Rattle.poolsteps.specs.declared.view.Status.TheVariants.{Untouched, Emptied, InHand}
use Rattle.poolsteps.specs.Views.{the_lane, status_of}
use Rattle.poolsteps.specs.Layout.{slot_index}
use Rattle.poolsteps.proofs.Carrying.{first_value, first-held, one-lifted, hand-lifted, may-lifted, fetches}
use Rattle.poolsteps.proofs.grid.Grid.fetch.Goals as goal

aside : (s : Status) → (s ≡ Untouched) ⊎ (s ≡ Emptied) → s ≢ InHand
aside s left bad = ⊎_elim
    (λ (un : s ≡ Untouched). let no : Untouched ≡ InHand = sym un ∙ bad in cc no)
    (λ (em : s ≡ Emptied). let no : Emptied ≡ InHand = sym em ∙ bad in cc no)
    left

pub slot_of-slot-requires : goal.slot_of-slot-requires
slot_of-slot-requires g c = record { spot = c.requires.spot; number = c.requires.lanes.1 }

pub lift-requires : goal.lift-requires
lift-requires g c = record {
  aim = (refl {a = c.args.self.now.shape}, refl {a = c.args.self.now.objects.ptr}, refl {a = c.args.spot.place}, refl {a = c.args.number}, aside _ c.requires.left);
  hand = c.requires.hand;
  spot = c.requires.spot;
  lanes = c.requires.lanes;
  may = c.requires.may;
  left = refl;
}

pub exchange-taken-requires : goal.exchange-taken-requires
exchange-taken-requires g c = (
  c.lift.ensures.hand.0 ∙ c.requires.hand.0,
  (
    c.lift.ensures.lifts.value,
    first-held (slot_index c.args.self.now.shape c.args.spot.place c.args.number) c.slot_of-slot.result c.slot_of-slot.ensures c.lift.ensures.lifts.held,
  ),
)

pub lay-requires : goal.lay-requires
lay-requires g c = record {
  aim = (refl {a = c.args.self.now.shape}, refl {a = c.args.self.now.objects.ptr}, refl {a = c.args.spot.place}, refl {a = c.args.number});
  hand = (
    c.exchange-taken.ensures.0 ∙ (c.lift.ensures.hand.0 ∙ c.requires.hand.0),
    rw c.exchange-taken.ensures.3 (one-lifted g.T.Clear.content g.T.Clear.room (spots_at c.args.self.now.objects.ptr c.args.self.now.shape) c.args.self.now.shape c.args.spot.place c.args.number (status_of (the_lane c.args.hand.now.me.0) c.args.spot.place c.args.number) c.args.hand.now.me c.lift.new.hand.me c.lift.ensures.lifts),
  );
  spot = c.requires.spot;
  lanes = c.requires.lanes;
  may = rw c.exchange-taken.ensures.3 (may-lifted g.T.Clear.content g.T.Clear.room (spots_at c.args.self.now.objects.ptr c.args.self.now.shape) c.args.self.now.shape c.args.spot.place c.args.number (status_of (the_lane c.args.hand.now.me.0) c.args.spot.place c.args.number) c.args.hand.now.me c.lift.new.hand.me c.lift.ensures.lifts c.requires.may);
  left = rw c.exchange-taken.ensures.3 (hand-lifted g.T.Clear.content g.T.Clear.room (spots_at c.args.self.now.objects.ptr c.args.self.now.shape) c.args.self.now.shape c.args.spot.place c.args.number (status_of (the_lane c.args.hand.now.me.0) c.args.spot.place c.args.number) c.args.hand.now.me c.lift.new.hand.me c.lift.ensures.lifts);
  value = rw (c.exchange-taken.ensures.3, c.slot_of-slot.ensures, c.empty.ensures) (None, refl, refl);
  cell = inl refl;
}

pub returns-clause-hand : goal.returns-clause-hand
returns-clause-hand g c =
    let first = c.lift.ensures.hand in
    let second = c.exchange-taken.ensures in
    let last = c.lay.ensures.hand in (last.0 ∙ (second.0 ∙ first.0), last.1 ∙ (second.1 ∙ first.1))

pub returns-clause-fetches : goal.returns-clause-fetches
returns-clause-fetches g c =
    let exchanged = rw (c.slot_of-slot.ensures, c.empty.ensures) at c.exchange-taken.ensures.3 in
    fetches g.T.Clear.content g.T.Clear.room (spots_at c.args.self.now.objects.ptr c.args.self.now.shape) c.args.self.now.shape c.args.spot.place c.args.number (status_of (the_lane c.args.hand.now.me.0) c.args.spot.place c.args.number) c.args.hand.now.me c.lift.new.hand.me c.lift.ensures.lifts
    refl (aside _ c.requires.left) c.requires.may c.exchange-taken.result c.args.own c.or.result (ap first_value c.exchange-taken.ensures.2) c.or.ensures
    c.lay.new.hand.me (rw exchanged at c.lay.ensures.lays)
