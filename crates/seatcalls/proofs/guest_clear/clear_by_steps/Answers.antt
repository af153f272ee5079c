use Rattle.std.proofs.Common.{◌≡◌, ◌∷◌, [], ℕ, Bool, true, false, eqb, refl, sym, ap, ◌∙◌, subst, arith}
use Rattle.keybits.specs.declared.shape.Shape.{Shape}
use Rattle.keybits.specs.Shapes.{is_place}
use Rattle.keybits.specs.Words.{state_in}
use Rattle.seqpool.specs.declared.act.Act.TheVariants as acts
use Rattle.poolsteps.specs.Views.{the_lane}
use Rattle.seatcalls.specs.Endings.{Ends}
use Rattle.seatcalls.specs.Visitors.{GuestOf, IsFree, Visits}
use Rattle.seatcalls.proofs.parts.Doing.{did-more}
use Rattle.seatcalls.proofs.parts.Visiting.{still-bare, life-did, life-under, life-fits}
use Rattle.seatcalls.proofs.parts.Referring.{visits-as, ends-behind}
use Rattle.seatcalls.proofs.guest_clear.clear_by_steps.Goals as goal

-- ---- the key misses

pub end-requires-clause-fits : goal.end-requires-clause-fits
end-requires-clause-fits g c =
    let z : Shape = c.args.grid.now.shape in
    let same : c.guest.inside.shape.value ≡ z = ap (λ (x : GuestOf). x.shape) c.guest.view_is ∙ c.requires.of.1 in
    let free = subst (λ (y : Shape). IsFree (record { table = c.guest.inside.hand.table_id; shape = y; number = c.guest.inside.number; book = c.guest.inside.hand.me.0 })) same c.guest.invariant.1 in
    let place : ℕ = c.args.spot.place in
    let there = subst (λ (p : ℕ). is_place z p ≡ true) (sym c.requires.spot.place_is) c.requires.spot.inside in
    let missed = c.enter-found.ensures.enters.1 (sym c.is_hit.ensures ∙ c.if-not-is_hit.true) in
    let leaves = c.leave-left.ensures.leaves.1 false (life-under missed) in
    life-fits leaves place there (λ p. (refl, λ was. refl)) (life-fits missed place there (λ p. (refl, λ was. refl)) free.fits)

pub end-requires-clause-bare : goal.end-requires-clause-bare
end-requires-clause-bare g c =
    let z : Shape = c.args.grid.now.shape in
    let same : c.guest.inside.shape.value ≡ z = ap (λ (x : GuestOf). x.shape) c.guest.view_is ∙ c.requires.of.1 in
    let free = subst (λ (y : Shape). IsFree (record { table = c.guest.inside.hand.table_id; shape = y; number = c.guest.inside.number; book = c.guest.inside.hand.me.0 })) same c.guest.invariant.1 in
    let place : ℕ = c.args.spot.place in
    let missed = c.enter-found.ensures.enters.1 (sym c.is_hit.ensures ∙ c.if-not-is_hit.true) in
    let leaves = c.leave-left.ensures.leaves.1 false (life-under missed) in
    still-bare free.fits.seat (did-more (life-did missed place) (life-did leaves place)).acted (λ key n. refl) free.bare

pub returns-then-not-is_hit : goal.returns-then-not-is_hit
returns-then-not-is_hit g c =
    let z : Shape = c.args.grid.now.shape in
    let same : c.guest.inside.shape.value ≡ z = ap (λ (x : GuestOf). x.shape) c.guest.view_is ∙ c.requires.of.1 in
    let free = subst (λ (y : Shape). IsFree (record { table = c.guest.inside.hand.table_id; shape = y; number = c.guest.inside.number; book = c.guest.inside.hand.me.0 })) same c.guest.invariant.1 in
    let place : ℕ = c.args.spot.place in
    let missed = c.enter-found.ensures.enters.1 (sym c.is_hit.ensures ∙ c.if-not-is_hit.true) in
    let leaves = c.leave-left.ensures.leaves.1 false (life-under missed) in
    let did = did-more (life-did missed place) (life-did leaves place) in
    let lane : (the_lane c.guest.inside.hand.me.0).lane ≡ c.args.guest.number = sym free.fits.seat.number_is ∙ ap (λ (x : GuestOf). x.number) c.guest.view_is in
    let mid : GuestOf = record { table = c.leave-left.new.hand.table_id; shape = c.guest.inside.shape.value; number = c.guest.inside.number; book = c.leave-left.new.hand.me.0 } in
    let front : Visits (acts.Clear c.args.guest.number c.args.key false ∷ []) 2 0 c.args.guest mid
    = subst (λ (n : ℕ). Visits (acts.Clear n c.args.key false ∷ []) 2 0 c.args.guest mid) lane
    (visits-as did c.guest.view_is same (c.leave-left.ensures.hand.0 ∙ c.enter-found.ensures.hand.0) (omega arith) (omega arith)) in
    let rest = subst (λ (y : Shape). Ends g.T.Clear.content g.T.Clear.room c.args.grid.now.objects.ptr place [] 1 2
    (record { table = c.leave-left.new.hand.table_id; shape = y; number = c.guest.inside.number; book = c.leave-left.new.hand.me.0 }) c.end.result) (sym same) c.end.ensures in
    subst (λ (p : ℕ). Ends g.T.Clear.content g.T.Clear.room c.args.grid.now.objects.ptr p (acts.Clear c.args.guest.number c.args.key false ∷ []) 4 2 c.args.guest c.end.result) c.requires.spot.place_is
    (ends-behind g.T.Clear.content g.T.Clear.room c.args.grid.now.objects.ptr place 1 2 c.end.result front rest (omega arith) (omega arith))

-- ---- the key hits

pub end-requires-2-clause-fits : goal.end-requires-2-clause-fits
end-requires-2-clause-fits g c =
    let z : Shape = c.args.grid.now.shape in
    let same : c.guest.inside.shape.value ≡ z = ap (λ (x : GuestOf). x.shape) c.guest.view_is ∙ c.requires.of.1 in
    let free = subst (λ (y : Shape). IsFree (record { table = c.guest.inside.hand.table_id; shape = y; number = c.guest.inside.number; book = c.guest.inside.hand.me.0 })) same c.guest.invariant.1 in
    let place : ℕ = c.args.spot.place in
    let there = subst (λ (p : ℕ). is_place z p ≡ true) (sym c.requires.spot.place_is) c.requires.spot.inside in
    let hit = c.enter-found.ensures.enters.0 (sym c.is_hit.ensures ∙ c.if-not-is_hit.false) in
    let marks = c.mark.ensures.marks in
    let leaves = c.leave-left-2.ensures.leaves.1 true (life-under marks) in
    life-fits leaves place there (λ p. (refl, λ was. refl)) (life-fits marks place there (λ p. (refl, λ was. refl)) (life-fits hit place there (λ p. (refl, λ was. refl)) free.fits))

pub end-requires-2-clause-bare : goal.end-requires-2-clause-bare
end-requires-2-clause-bare g c =
    let z : Shape = c.args.grid.now.shape in
    let same : c.guest.inside.shape.value ≡ z = ap (λ (x : GuestOf). x.shape) c.guest.view_is ∙ c.requires.of.1 in
    let free = subst (λ (y : Shape). IsFree (record { table = c.guest.inside.hand.table_id; shape = y; number = c.guest.inside.number; book = c.guest.inside.hand.me.0 })) same c.guest.invariant.1 in
    let place : ℕ = c.args.spot.place in
    let hit = c.enter-found.ensures.enters.0 (sym c.is_hit.ensures ∙ c.if-not-is_hit.false) in
    let marks = c.mark.ensures.marks in
    let leaves = c.leave-left-2.ensures.leaves.1 true (life-under marks) in
    still-bare free.fits.seat (did-more (did-more (life-did hit place) (life-did marks place)) (life-did leaves place)).acted (λ key n. refl) free.bare

pub returns : goal.returns
returns g c =
    let z : Shape = c.args.grid.now.shape in
    let same : c.guest.inside.shape.value ≡ z = ap (λ (x : GuestOf). x.shape) c.guest.view_is ∙ c.requires.of.1 in
    let free = subst (λ (y : Shape). IsFree (record { table = c.guest.inside.hand.table_id; shape = y; number = c.guest.inside.number; book = c.guest.inside.hand.me.0 })) same c.guest.invariant.1 in
    let place : ℕ = c.args.spot.place in
    let hit = c.enter-found.ensures.enters.0 (sym c.is_hit.ensures ∙ c.if-not-is_hit.false) in
    let marks = c.mark.ensures.marks in
    let leaves = c.leave-left-2.ensures.leaves.1 true (life-under marks) in
    let first = life-did hit place in
    let new : Bool = eqb (state_in c.mark.result) 1 in
    let did = did-more (did-more first (life-did marks place)) (life-did leaves place) in
    let lane : (the_lane c.enter-found.new.hand.me.0).lane ≡ c.args.guest.number = first.acted.lane ∙ (sym free.fits.seat.number_is ∙ ap (λ (x : GuestOf). x.number) c.guest.view_is) in
    let mid : GuestOf = record { table = c.leave-left-2.new.hand.table_id; shape = c.guest.inside.shape.value; number = c.guest.inside.number; book = c.leave-left-2.new.hand.me.0 } in
    let front : Visits (acts.Clear c.args.guest.number c.args.key c.is_present-marked.result ∷ []) 3 0 c.args.guest mid
    = subst (λ (b : Bool). Visits (acts.Clear c.args.guest.number c.args.key b ∷ []) 3 0 c.args.guest mid) (sym c.is_present-marked.ensures)
    (subst (λ (n : ℕ). Visits (acts.Clear n c.args.key new ∷ []) 3 0 c.args.guest mid) lane
    (visits-as did c.guest.view_is same (c.leave-left-2.ensures.hand.0 ∙ (c.mark.ensures.hand.0 ∙ c.enter-found.ensures.hand.0)) (omega arith) (omega arith))) in
    let rest = subst (λ (y : Shape). Ends g.T.Clear.content g.T.Clear.room c.args.grid.now.objects.ptr place [] 1 2
    (record { table = c.leave-left-2.new.hand.table_id; shape = y; number = c.guest.inside.number; book = c.leave-left-2.new.hand.me.0 }) c.end-2.result) (sym same) c.end-2.ensures in
    subst (λ (p : ℕ). Ends g.T.Clear.content g.T.Clear.room c.args.grid.now.objects.ptr p (acts.Clear c.args.guest.number c.args.key c.is_present-marked.result ∷ []) 4 2 c.args.guest c.end-2.result) c.requires.spot.place_is
    (ends-behind g.T.Clear.content g.T.Clear.room c.args.grid.now.objects.ptr place 1 2 c.end-2.result front rest (omega arith) (omega arith))
