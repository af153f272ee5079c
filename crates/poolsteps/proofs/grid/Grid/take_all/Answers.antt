use Rattle.poolsteps.specs.Layout.{spots_at}
use Rattle.keybits.specs.Shapes.{callers}
use Rattle.std.proofs.Common.{◌≡◌, ◌-◌, ℕ, suc, Option, None, refl, ap, sym, ◌∙◌, arith}
use Rattle.keybits.specs.declared.shape.Shape.{Shape}
use Rattle.poolsteps.specs.Share.{Share}
use Rattle.poolsteps.specs.Moved.{stored_of}
use Rattle.poolsteps.proofs.Carrying.{stored-is}
use Rattle.poolsteps.proofs.Turning.{rising, turning, turning-none, turning-head, turning-next, turning-all, found-share, some-share}
use Rattle.poolsteps.proofs.grid.Grid.take_all.Goals as goal

abbrev nothing : {T : Type 0} → ℕ → Option (Share T)
nothing _ = None

pub take_next-requires-clause-held : goal.take_next-requires-clause-held
take_next-requires-clause-held g c =
    let z : Shape = c.args.self.now.shape in
    let some = c.args.self.now.checked.lanes.0 in
    let values = c.requires.held.0 in
    let head = turning-head z c.args.spot.place rising values nothing {count = (callers z)} {left = (callers z) - 1} {number = (callers z) - 1} 0 (omega (arith, some)) refl
    (c.requires.held.2 ∙ turning-none z c.args.spot.place rising values nothing (callers z)) in
    some-share g.T.Clear.content g.T.Clear.room (spots_at c.args.self.now.objects.ptr c.args.self.now.shape) c.args.spot.place z g.J.MoveAll.stored values c.requires.held.1 ((callers z) - 1) (omega (arith, some)) head

pub of_last-rest-requires : goal.of_last-rest-requires
of_last-rest-requires g c =
    let z : Shape = c.args.self.now.shape in
    let some = c.args.self.now.checked.lanes.0 in
    let values = c.requires.held.0 in
    let head = turning-head z c.args.spot.place rising values nothing {count = (callers z)} {left = (callers z) - 1} {number = (callers z) - 1} 0 (omega (arith, some)) refl
    (c.requires.held.2 ∙ turning-none z c.args.spot.place rising values nothing (callers z)) in
    let share = found-share g.T.Clear.content g.T.Clear.room (spots_at c.args.self.now.objects.ptr c.args.self.now.shape) c.args.spot.place z g.J.MoveAll.stored values c.requires.held.1 ((callers z) - 1) (omega (arith, some)) head c.take_next.result
    c.take_next.ensures.share in
    let number = share.number_is in
    let of = share.of_is in omega (arith, some, number, of)

pub loop-number-init : goal.loop-number-init
loop-number-init g c =
    let z : Shape = c.args.self.now.shape in
    let some = c.args.self.now.checked.lanes.0 in
    let values = c.requires.held.0 in
    let head = turning-head z c.args.spot.place rising values nothing {count = (callers z)} {left = (callers z) - 1} {number = (callers z) - 1} 0 (omega (arith, some)) refl
    (c.requires.held.2 ∙ turning-none z c.args.spot.place rising values nothing (callers z)) in
    let share = found-share g.T.Clear.content g.T.Clear.room (spots_at c.args.self.now.objects.ptr c.args.self.now.shape) c.args.spot.place z g.J.MoveAll.stored values c.requires.held.1 ((callers z) - 1) (omega (arith, some)) head c.take_next.result
    c.take_next.ensures.share in
    let next = turning-next z c.args.spot.place rising values nothing {count = (callers z)} {left = (callers z) - 1} {number = (callers z) - 1} 0 (omega (arith, some)) refl
    (c.requires.held.2 ∙ turning-none z c.args.spot.place rising values nothing (callers z)) None refl in
    let done : suc 0 ≡ (callers z) - ((callers z) - 1) = omega (arith, some) in
    record {
      seat = c.take_next.ensures.hand;
      inside = omega (arith, some);
      values = values;
      are = c.requires.held.1;
      held = c.take_next.ensures.held ∙ (λ i. (c.args.hand.now.me.0, (next ∙ ap (turning z c.args.spot.place rising values nothing ((callers z) - 1)) done) i));
      number_is = ap (λ s. s.number) (sym c.of_last-rest.ensures) ∙ share.number_is;
      of_is = ap (λ s. s.of) (sym c.of_last-rest.ensures) ∙ share.of_is;
      spot_is = ap (λ s. s.spot) (sym c.of_last-rest.ensures) ∙ share.spot_is;
      cell_is = ap (stored_of g.T.Clear.content g.T.Clear.room) (sym c.of_last-rest.ensures)
          ∙ sym (stored-is g.T.Clear.content g.T.Clear.room (spots_at c.args.self.now.objects.ptr c.args.self.now.shape) c.args.spot.place g.J.MoveAll.stored ((callers z) - 1) (callers z) c.take_next.result share);
    }

pub take_next-requires-in-loop-number-clause-held : goal.take_next-requires-in-loop-number-clause-held
take_next-requires-in-loop-number-clause-held g c =
    let z : Shape = c.args.self.now.shape in
    let h = c.loop-number.invariant in
    let some = c.loop-number-test.true in
    let inside = h.inside in
    let next : ℕ = c.loop-number.number - 1 in
    let head = turning-head z c.args.spot.place rising h.values nothing {left = next} {number = next} ((callers z) - c.loop-number.number) (omega (arith, some)) refl
    (ap (λ me. me.1) h.held) in
    some-share g.T.Clear.content g.T.Clear.room (spots_at c.args.self.now.objects.ptr c.args.self.now.shape) c.args.spot.place z g.J.MoveAll.stored h.values h.are next (omega (arith, some, inside)) head

pub merge-requires : goal.merge-requires
merge-requires g c =
    let z : Shape = c.args.self.now.shape in
    let h = c.loop-number.invariant in
    let some = c.loop-number-test.true in
    let inside = h.inside in
    let next : ℕ = c.loop-number.number - 1 in
    let head = turning-head z c.args.spot.place rising h.values nothing {left = next} {number = next} ((callers z) - c.loop-number.number) (omega (arith, some)) refl
    (ap (λ me. me.1) h.held) in
    let share = found-share g.T.Clear.content g.T.Clear.room (spots_at c.args.self.now.objects.ptr c.args.self.now.shape) c.args.spot.place z g.J.MoveAll.stored h.values h.are next (omega (arith, some, inside)) head c.take_next-in-loop-number.result
    c.take_next-in-loop-number.ensures.share in
    let number = share.number_is in
    let is = h.number_is in (
      share.cell ∙ ap (λ x. x.cell) (sym h.cell_is),
      share.spot_is ∙ sym h.spot_is,
      share.of_is ∙ sym h.of_is,
      omega (arith, some, number, is),
    )

pub loop-number-preserved : goal.loop-number-preserved
loop-number-preserved g c =
    let z : Shape = c.args.self.now.shape in
    let h = c.loop-number.invariant in
    let some = c.loop-number-test.true in
    let inside = h.inside in
    let next : ℕ = c.loop-number.number - 1 in
    let head = turning-head z c.args.spot.place rising h.values nothing {left = next} {number = next} ((callers z) - c.loop-number.number) (omega (arith, some)) refl
    (ap (λ me. me.1) h.held) in
    let share = found-share g.T.Clear.content g.T.Clear.room (spots_at c.args.self.now.objects.ptr c.args.self.now.shape) c.args.spot.place z g.J.MoveAll.stored h.values h.are next (omega (arith, some, inside)) head c.take_next-in-loop-number.result
    c.take_next-in-loop-number.ensures.share in
    let taken = c.take_next-in-loop-number.ensures in
    let turned = turning-next z c.args.spot.place rising h.values nothing {left = next} {number = next} ((callers z) - c.loop-number.number) (omega (arith, some)) refl
    (ap (λ me. me.1) h.held) None refl in
    let done : suc ((callers z) - c.loop-number.number) ≡ (callers z) - next = omega (arith, some, inside) in
    record {
      seat = (taken.hand.0 ∙ h.seat.0, taken.hand.1 ∙ h.seat.1);
      inside = omega (arith, inside);
      values = h.values;
      are = h.are;
      held = taken.held ∙ (λ i. ((h.held i).0, (turned ∙ ap (turning z c.args.spot.place rising h.values nothing next) done) i));
      number_is = ap (λ x. x.number) c.merge.ensures.rest ∙ share.number_is;
      of_is = ap (λ x. x.of) c.merge.ensures.rest ∙ h.of_is;
      spot_is = ap (λ x. x.spot) c.merge.ensures.rest ∙ h.spot_is;
      cell_is = rw c.merge.ensures.rest h.cell_is;
    }

pub returns-clause-held : goal.returns-clause-held
returns-clause-held g c =
    let z : Shape = c.args.self.now.shape in
    let h = c.loop-number.invariant in
    let none = c.loop-number-test.false in
    let left : c.loop-number.number ≡ 0 = omega (arith, none) in
    let done : (callers z) - c.loop-number.number ≡ (callers z) = omega (arith, none) in
    let all : turning z c.args.spot.place rising h.values nothing c.loop-number.number ((callers z) - c.loop-number.number)
    ≡ turning z c.args.spot.place rising h.values nothing 0 (callers z) = λ i. turning z c.args.spot.place rising h.values nothing (left i) (done i) in
    h.held ∙ (λ i. (c.args.hand.now.me.0, (all ∙ turning-all z c.args.spot.place rising h.values nothing (callers z)) i))
