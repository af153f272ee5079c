use Rattle.std.proofs.Common.{◌≡◌, ◌∷◌, [], ℕ, true, false, Some, None, refl, sym, ap, ◌∙◌, subst, arith, Option}
use Rattle.atomic_table.specs.declared.shared.Seat.{Seat}
use Rattle.keybits.specs.declared.shape.Shape.{Shape}
use Rattle.poolsteps.specs.Share.{Share}
use Rattle.poolsteps.specs.declared.view.View.{View}
use Rattle.keybits.specs.Shapes.{is_place}
use Rattle.keybits.specs.Keys.{place_of}
use Rattle.seqpool.specs.declared.act.Act.TheVariants as acts
use Rattle.poolsteps.specs.Views.{the_lane}
use Rattle.poolsteps.specs.Told.{MayTouch}
use Rattle.seatcalls.specs.Visitors.{GuestOf, IsFree, IsReferring, Visits}
use Rattle.seatcalls.proofs.parts.Doing.{did-more}
use Rattle.seatcalls.proofs.parts.Visiting.{still-bare, life-did, life-under, life-fits}
use Rattle.seatcalls.proofs.parts.Referring.{visits-as, entered-some, got-did, got-referring}
use Rattle.seatcalls.proofs.guests.Guest.enter.Goals as goal

pub out-share-requires-clause-may : goal.out-share-requires-clause-may
out-share-requires-clause-may g c =
    let z : Shape = c.args.grid.now.shape in
    let same : c.self.inside.shape.value ≡ z = ap (λ (x : GuestOf). x.shape) c.self.view_is ∙ c.requires.of.1 in
    let free = subst (λ (y : Shape). IsFree (record { table = c.self.inside.hand.table_id; shape = y; number = c.self.inside.number; book = c.self.inside.hand.me.0 })) same c.self.invariant.1 in
    let enters = c.enter-found.ensures.enters.0 (sym c.is_hit.ensures ∙ c.if-is_hit.true) in
    let did = life-did enters.2 c.args.spot.place in
    let may = c.shares_law.ensures.held z c.enter-found.new.hand.me.0 c.args.key (entered-some free.fits free.bare enters.2) in
    let lane : (the_lane c.enter-found.new.hand.me.0).lane ≡ c.self.inside.number = did.acted.lane ∙ sym free.fits.seat.number_is in
    subst (λ (p : ℕ). MayTouch z c.enter-found.new.hand.me.0 p c.self.inside.number) (sym c.requires.spot.place_is)
    (subst (λ (n : ℕ). MayTouch z c.enter-found.new.hand.me.0 (place_of c.args.key) n) lane may)

pub invariant_of-result : goal.invariant_of-result
invariant_of-result g c =
    let z : Shape = c.args.grid.now.shape in
    let same : c.self.inside.shape.value ≡ z = ap (λ (x : GuestOf). x.shape) c.self.view_is ∙ c.requires.of.1 in
    let free = subst (λ (y : Shape). IsFree (record { table = c.self.inside.hand.table_id; shape = y; number = c.self.inside.number; book = c.self.inside.hand.me.0 })) same c.self.invariant.1 in
    let enters = c.enter-found.ensures.enters.0 (sym c.is_hit.ensures ∙ c.if-is_hit.true) in
    let outs = c.out-share.ensures.outs in
    let referring = got-referring free.fits free.bare c.requires.spot refl enters.2 outs c.out-share.new.hand.table_id c.requires.key in (
      ap (λ (h : Seat (Option (Share g.row.T.Denot)) View). h.me.1) c.new.ensures ∙ (outs.held ∙ (enters.2.held ∙ c.self.invariant.0)),
      c.out-share.result,
      c.filled.ensures,
      subst (λ (h : Seat (Option (Share g.row.T.Denot)) View). IsReferring g.T.Clear.content g.T.Clear.room (record { table = h.table_id; shape = c.self.inside.shape.value; number = c.self.inside.number; book = h.me.0 })
          c.args.grid.now.objects.ptr c.args.key c.args.spot.start c.out-share.result) (sym c.new.ensures)
          (subst (λ (y : Shape). IsReferring g.T.Clear.content g.T.Clear.room (record { table = c.out-share.new.hand.table_id; shape = y; number = c.self.inside.number; book = c.out-share.new.hand.me.0 })
          c.args.grid.now.objects.ptr c.args.key c.args.spot.start c.out-share.result) (sym same) referring),
    )

pub returns-then-is_hit-clause-gets : goal.returns-then-is_hit-clause-gets
returns-then-is_hit-clause-gets g c =
    let z : Shape = c.args.grid.now.shape in
    let same : c.self.inside.shape.value ≡ z = ap (λ (x : GuestOf). x.shape) c.self.view_is ∙ c.requires.of.1 in
    let free = subst (λ (y : Shape). IsFree (record { table = c.self.inside.hand.table_id; shape = y; number = c.self.inside.number; book = c.self.inside.hand.me.0 })) same c.self.invariant.1 in
    let enters = c.enter-found.ensures.enters.0 (sym c.is_hit.ensures ∙ c.if-is_hit.true) in
    let outs = c.out-share.ensures.outs in
    let did = got-did free.fits free.bare c.requires.spot refl enters.2 outs in
    let number : c.self.inside.number ≡ c.args.self.number = ap (λ (x : GuestOf). x.number) c.self.view_is in (
      enters.0,
      subst (λ (h : Seat (Option (Share g.row.T.Denot)) View). Visits (acts.Get c.args.self.number c.args.key (Some enters.0) ∷ []) 1 2 c.args.self
          (record { table = h.table_id; shape = c.self.inside.shape.value; number = c.self.inside.number; book = h.me.0 })) (sym c.new.ensures)
          (subst (λ (n : ℕ). Visits (acts.Get n c.args.key (Some enters.0) ∷ []) 1 2 c.args.self (record { table = c.out-share.new.hand.table_id; shape = c.self.inside.shape.value; number = c.self.inside.number; book = c.out-share.new.hand.me.0 })) number
          (visits-as did c.self.view_is same (c.out-share.ensures.hand.0 ∙ c.enter-found.ensures.hand.0) (omega arith) (omega arith))),
    )

pub returns-clause-fits : goal.returns-clause-fits
returns-clause-fits g c =
    let z : Shape = c.args.grid.now.shape in
    let same : c.self.inside.shape.value ≡ z = ap (λ (x : GuestOf). x.shape) c.self.view_is ∙ c.requires.of.1 in
    let free = subst (λ (y : Shape). IsFree (record { table = c.self.inside.hand.table_id; shape = y; number = c.self.inside.number; book = c.self.inside.hand.me.0 })) same c.self.invariant.1 in
    let place : ℕ = c.args.spot.place in
    let inside = c.requires.spot.inside in
    let at = c.requires.spot.place_is in
    let there = subst (λ (p : ℕ). is_place z p ≡ true) (sym at) inside in
    let missed = c.enter-found.ensures.enters.1 (sym c.is_hit.ensures ∙ c.if-is_hit.false) in
    let leaves = c.leave-left.ensures.leaves.1 false (life-under missed) in
    life-fits leaves place there (λ p. (refl, λ was. refl)) (life-fits missed place there (λ p. (refl, λ was. refl)) free.fits)

pub returns-clause-bare : goal.returns-clause-bare
returns-clause-bare g c =
    let z : Shape = c.args.grid.now.shape in
    let same : c.self.inside.shape.value ≡ z = ap (λ (x : GuestOf). x.shape) c.self.view_is ∙ c.requires.of.1 in
    let free = subst (λ (y : Shape). IsFree (record { table = c.self.inside.hand.table_id; shape = y; number = c.self.inside.number; book = c.self.inside.hand.me.0 })) same c.self.invariant.1 in
    let place : ℕ = c.args.spot.place in
    let missed = c.enter-found.ensures.enters.1 (sym c.is_hit.ensures ∙ c.if-is_hit.false) in
    let leaves = c.leave-left.ensures.leaves.1 false (life-under missed) in
    still-bare free.fits.seat (did-more (life-did missed place) (life-did leaves place)).acted (λ key n. refl) free.bare

pub returns-clause-made : goal.returns-clause-made
returns-clause-made g c =
    let z : Shape = c.args.grid.now.shape in
    let same : c.self.inside.shape.value ≡ z = ap (λ (x : GuestOf). x.shape) c.self.view_is ∙ c.requires.of.1 in
    let free = subst (λ (y : Shape). IsFree (record { table = c.self.inside.hand.table_id; shape = y; number = c.self.inside.number; book = c.self.inside.hand.me.0 })) same c.self.invariant.1 in
    let place : ℕ = c.args.spot.place in
    let missed = c.enter-found.ensures.enters.1 (sym c.is_hit.ensures ∙ c.if-is_hit.false) in
    let leaves = c.leave-left.ensures.leaves.1 false (life-under missed) in
    let did = did-more (life-did missed place) (life-did leaves place) in
    let lane : (the_lane c.self.inside.hand.me.0).lane ≡ c.args.self.number = sym free.fits.seat.number_is ∙ ap (λ (x : GuestOf). x.number) c.self.view_is in
    let mid : Shape → GuestOf = λ y. record { table = c.leave-left.new.hand.table_id; shape = y; number = c.self.inside.number; book = c.leave-left.new.hand.me.0 } in
    subst (λ (y : Shape). Visits (acts.Get c.args.self.number c.args.key None ∷ []) 2 0 c.args.self (mid y)) same
    (subst (λ (n : ℕ). Visits (acts.Get n c.args.key None ∷ []) 2 0 c.args.self (mid c.self.inside.shape.value)) lane
    (visits-as did c.self.view_is same (c.leave-left.ensures.hand.0 ∙ c.enter-found.ensures.hand.0) (omega arith) (omega arith)))
