use Rattle.poolsteps.specs.Layout.{spots_at}
use Rattle.keybits.specs.Shapes.{callers}
use Rattle.std.proofs.Common.{◌≡◌, ◌+◌, ◌-◌, ℕ, suc, Option, Some, refl, ap, sym, ◌∙◌, arith}
use Rattle.keybits.specs.declared.shape.Shape.{Shape}
use Rattle.poolsteps.specs.Share.{Share, share_of}
use Rattle.poolsteps.specs.Rest.{Rest, lowest_share}
use Rattle.poolsteps.proofs.Turning.{falling, turning, turning-none, turning-head, turning-next, turning-all, rest-left}
use Rattle.poolsteps.proofs.grid.Grid.put_all.Goals as goal

-- the shares of a rest by their numbers
abbrev share_in : {T : Type 0} → Rest T → ℕ → Option (Share T)
share_in rest number = Some (share_of rest.cell rest.spot rest.of rest.object number)

pub loop-number-init : goal.loop-number-init
loop-number-init g c =
    let z : Shape = c.args.self.now.shape in
    let left : (callers z) ≡ (callers z) - 0 = omega arith in
    record {
      seat = (refl, refl);
      book = refl;
      values = c.requires.held.0;
      held = c.requires.held.1 ∙ (turning-none z c.args.spot.place (falling z) c.requires.held.0 (share_in c.args.rest) (callers z)
          ∙ ap (λ (n : ℕ). turning z c.args.spot.place (falling z) c.requires.held.0 (share_in c.args.rest) n 0) left);
      rest = λ i. record c.args.rest { number = c.requires.rest.number_is i };
    }

pub cut-requires : goal.cut-requires
cut-requires g c =
    let h = c.loop-number.invariant in
    let below = c.loop-number-test.true in
    let of = c.requires.rest.of_is in rw h.rest (omega (arith, below, of))

pub put_next-requires-clause-hand : goal.put_next-requires-clause-hand
put_next-requires-clause-hand g c = c.loop-number.invariant.seat.0 ∙ c.requires.hand

pub put_next-requires-clause-held : goal.put_next-requires-clause-held
put_next-requires-clause-held g c =
    let z : Shape = c.args.self.now.shape in
    let h = c.loop-number.invariant in
    let below = c.loop-number-test.true in
    let number : ℕ = c.loop-number.number in (
      h.values number,
      turning-head z c.args.spot.place (falling z) h.values (share_in c.args.rest) {left = (callers z) - 1 - number} {number = number} number
          (omega (arith, below)) (omega (arith, below)) h.held,
    )

pub loop-number-preserved : goal.loop-number-preserved
loop-number-preserved g c =
    let z : Shape = c.args.self.now.shape in
    let h = c.loop-number.invariant in
    let below = c.loop-number-test.true in
    let number : ℕ = c.loop-number.number in
    let put = c.put_next.ensures in
    let share : share_in c.args.rest number ≡ Some c.cut.result = ap Some (ap lowest_share (sym h.rest) ∙ sym c.cut.ensures.share) in
    let turned = turning-next z c.args.spot.place (falling z) h.values (share_in c.args.rest) {left = (callers z) - 1 - number} {number = number} number
    (omega (arith, below)) (omega (arith, below)) h.held (Some c.cut.result) share in
    let left : (callers z) - 1 - number ≡ (callers z) - (number + 1) = omega (arith, below) in
    let done : suc number ≡ number + 1 = omega arith in
    record {
      seat = (put.hand.0 ∙ h.seat.0, put.hand.1 ∙ h.seat.1);
      book = ap (λ me. me.0) put.held ∙ h.book;
      values = h.values;
      held = ap (λ me. me.1) put.held ∙ (turned ∙ (λ i. turning z c.args.spot.place (falling z) h.values (share_in c.args.rest) (left i) (done i)));
      rest = rw (c.cut.ensures.rest, h.rest) refl;
    }

pub into_share-requires : goal.into_share-requires
into_share-requires g c =
    let some = c.args.self.now.checked.lanes.0 in
    let most = c.loop-number.auto.number-end in
    let least = c.loop-number-test.false in
    let of = c.requires.rest.of_is in rw c.loop-number.invariant.rest (omega (arith, most, least, some, of))

pub put_next-requires-2-clause-hand : goal.put_next-requires-2-clause-hand
put_next-requires-2-clause-hand g c = c.loop-number.invariant.seat.0 ∙ c.requires.hand

pub put_next-requires-2-clause-held : goal.put_next-requires-2-clause-held
put_next-requires-2-clause-held g c =
    let z : Shape = c.args.self.now.shape in
    let h = c.loop-number.invariant in
    let some = c.args.self.now.checked.lanes.0 in
    let most = c.loop-number.auto.number-end in
    let least = c.loop-number-test.false in (
      h.values ((callers z) - 1),
      turning-head z c.args.spot.place (falling z) h.values (share_in c.args.rest) {left = 0} {number = (callers z) - 1} c.loop-number.number
          (omega (arith, most, least, some)) (omega arith) h.held,
    )

pub returns-clause-hand : goal.returns-clause-hand
returns-clause-hand g c =
    let h = c.loop-number.invariant in
    let put = c.put_next-2.ensures in ((put.hand.0 ∙ h.seat.0, put.hand.1 ∙ h.seat.1), ap (λ me. me.0) put.held ∙ h.book)

pub returns-clause-held : goal.returns-clause-held
returns-clause-held g c =
    let z : Shape = c.args.self.now.shape in
    let h = c.loop-number.invariant in
    let some = c.args.self.now.checked.lanes.0 in
    let most = c.loop-number.auto.number-end in
    let least = c.loop-number-test.false in
    let put = c.put_next-2.ensures in
    let last : c.loop-number.number ≡ (callers z) - 1 = omega (arith, most, least, some) in
    let share : share_in c.args.rest ((callers z) - 1) ≡ Some c.into_share.result =
    ap (share_in c.args.rest) (sym last) ∙ (ap Some (ap lowest_share (sym h.rest)) ∙ ap Some (sym c.into_share.ensures)) in
    let turned = turning-next z c.args.spot.place (falling z) h.values (share_in c.args.rest) {left = 0} {number = (callers z) - 1} c.loop-number.number
    (omega (arith, most, least, some)) (omega arith) h.held (Some c.into_share.result) share in
    let done : suc c.loop-number.number ≡ (callers z) = omega (arith, most, least, some) in (
      share_in c.args.rest,
      rest-left g.T.Clear.content g.T.Clear.room (spots_at c.args.self.now.objects.ptr c.args.self.now.shape) c.args.spot.place z g.J.MoveAll.stored c.args.rest c.requires.rest,
      ap (λ me. me.1) put.held ∙ (turned ∙ (ap (turning z c.args.spot.place (falling z) h.values (share_in c.args.rest) 0) done
          ∙ turning-all z c.args.spot.place (falling z) h.values (share_in c.args.rest) (callers z))),
    )
