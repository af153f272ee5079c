-- Where the list has a place, or nothing is free and no page is opened, the create has no step.
use Rattle.std.proofs.Common.{◌≡◌, ◌<◌, ◌≤◌, ℕ, List, [], map, Some, Option, ap, sym, ◌∙◌, subst, length, arith}
use Rattle.std.proofs.lemmas.List.{nil_from_length}
use Rattle.keybits.specs.declared.shape.Shape.{Shape}
use Rattle.keybits.specs.declared.place.Place.{Place}
use Rattle.keybits.specs.Places.{number_of}
use Rattle.steplaws.specs.Calls.Call.{Creating}
use Rattle.poolsteps.specs.Grids.{IsSpot}
use Rattle.poolsteps.specs.Views.{the_lane}
use Rattle.seatcalls.specs.Called.{caller_of}
use Rattle.shardpool.specs.Halted.{CalledWithin}
use Rattle.shardpool.specs.LaneStates.{IsFirst}
use Rattle.shardpool.proofs.free.Takes.{hung-inside, hung-begins, hung-rests}
use Rattle.shardpool.proofs.calls.Halts.{halts-none, listed-none, closed-none, fits-own, lawful-parts}
use Rattle.shardpool.proofs.pool.Pool.halt_create.Goals as goal

pub returns-then-len-gt0-clause-called : goal.returns-then-len-gt0-clause-called
returns-then-len-gt0-clause-called g c =
    let free = c.args.state.now.free in
    let seat = c.requires.parts.fits.seat in
    let count = c.len.ensures.len in
    let more = c.if-len-gt0.true in
    let some : 0 < length free.own = omega (arith, count, more) in
    halts-none _ c.args.limit seat.one (seat.legal, seat.own, seat.quiet, seat.owners)
    (listed-none (caller_of c.args.self.now.shape c.args.hand.now.me.0) free.own (the_lane c.args.hand.now.me.0).chain c.args.state.now.pages.opened some)

pub number-requires-clause-page : goal.number-requires-clause-page
number-requires-clause-page g c =
    let hung : c.args.state.now.free.chain ≡ Some c.in-Some.first = sym c.chain.ensures.first ∙ c.in-Some.is in
    (hung-inside (fits-own c.requires.parts.fits) hung c.chain.ensures.places).low_page

pub number-requires-clause-slot : goal.number-requires-clause-slot
number-requires-clause-slot g c =
    let hung : c.args.state.now.free.chain ≡ Some c.in-Some.first = sym c.chain.ensures.first ∙ c.in-Some.is in
    (hung-inside (fits-own c.requires.parts.fits) hung c.chain.ensures.places).low_slot

pub spot-spot-requires : goal.spot-spot-requires
spot-spot-requires g c =
    let fits = c.requires.parts.fits in
    let hung : c.args.state.now.free.chain ≡ Some c.in-Some.first = sym c.chain.ensures.first ∙ c.in-Some.is in
    (hung-rests (fits-own fits) hung (fits.shape_is ∙ sym (ap (λ p. p.shape) c.self.view_is)) c.number.ensures).inside

pub follow_within-requires-clause-spot : goal.follow_within-requires-clause-spot
follow_within-requires-clause-spot g c = subst (IsSpot c.self.inside.grid.shape c.spot-spot.result) (sym c.spot-spot.ensures.place_is) c.spot-spot.ensures

pub follow_within-requires-clause-chain : goal.follow_within-requires-clause-chain
follow_within-requires-clause-chain g c =
    let hung : c.args.state.now.free.chain ≡ Some c.in-Some.first = sym c.chain.ensures.first ∙ c.in-Some.is in
    hung-begins (fits-own c.requires.parts.fits) hung (c.spot-spot.ensures.place_is ∙ c.number.ensures)

pub follow_within-requires-clause-seen : goal.follow_within-requires-clause-seen
follow_within-requires-clause-seen g c = lawful-parts c.self.view_is c.requires.parts

pub collect_within-requires-clause-seen : goal.collect_within-requires-clause-seen
collect_within-requires-clause-seen g c = lawful-parts c.self.view_is c.requires.parts

pub collect_within-requires-clause-lane : goal.collect_within-requires-clause-lane
collect_within-requires-clause-lane g c =
    let seat = c.requires.parts.fits.seat in
    (seat.number_is, subst (λ (z : Shape). c.args.state.now.number < z.lanes) (sym (ap (λ p. p.shape) c.self.view_is)) seat.below)

pub collect_within-requires-clause-chain : goal.collect_within-requires-clause-chain
collect_within-requires-clause-chain g c =
    subst (λ (first : Option Place). IsFirst first (the_lane c.args.hand.now.me.0).chain) (sym c.chain.ensures.first ∙ c.in_default.is) c.requires.parts.fits.stores.first

pub returns-in-Some-clause-called : goal.returns-in-Some-clause-called
returns-in-Some-clause-called g c =
    let free = c.args.state.now.free in
    let chain : List ℕ = (the_lane c.args.hand.now.me.0).chain in
    let opened : ℕ = c.args.state.now.pages.opened in
    let count = c.len.ensures.len in
    let no_more = c.if-len-gt0.false in
    let none : free.own ≡ [] = nil_from_length free.own (omega (arith, count, no_more)) in
    subst (λ (z : Shape). CalledWithin z (Creating (map number_of free.own) chain opened) c.args.limit c.args.hand.now.me c.follow_within.new.hand.me) (ap (λ p. p.shape) c.self.view_is)
    (subst (λ (own : List Place). CalledWithin c.self.inside.grid.shape (Creating (map number_of own) chain opened) c.args.limit c.args.hand.now.me c.follow_within.new.hand.me) (sym none)
    (c.follow_within.ensures.called opened))

pub returns-then-opened-gt0-clause-called : goal.returns-then-opened-gt0-clause-called
returns-then-opened-gt0-clause-called g c =
    let free = c.args.state.now.free in
    let opened : ℕ = c.args.state.now.pages.opened in
    let count = c.len.ensures.len in
    let no_more = c.if-len-gt0.false in
    let none : free.own ≡ [] = nil_from_length free.own (omega (arith, count, no_more)) in
    let bare : (the_lane c.args.hand.now.me.0).chain ≡ []
    = subst (λ (first : Option Place). IsFirst first (the_lane c.args.hand.now.me.0).chain) (sym c.chain.ensures.first ∙ c.in_default.is) c.requires.parts.fits.stores.first in
    let is = c.opened.ensures.opened in
    let more = c.if-opened-gt0.true in
    let some : 0 < opened = omega (arith, is, more) in
    subst (λ (z : Shape). CalledWithin z (Creating (map number_of free.own) (the_lane c.args.hand.now.me.0).chain opened) c.args.limit c.args.hand.now.me c.collect_within.new.hand.me)
    (ap (λ p. p.shape) c.self.view_is)
    (subst (λ (own : List Place). CalledWithin c.self.inside.grid.shape (Creating (map number_of own) (the_lane c.args.hand.now.me.0).chain opened) c.args.limit c.args.hand.now.me c.collect_within.new.hand.me) (sym none)
    (subst (λ (chain : List ℕ). CalledWithin c.self.inside.grid.shape (Creating [] chain opened) c.args.limit c.args.hand.now.me c.collect_within.new.hand.me) (sym bare)
    (c.collect_within.ensures.called opened some)))

pub returns-else-opened-gt0-clause-called : goal.returns-else-opened-gt0-clause-called
returns-else-opened-gt0-clause-called g c =
    let free = c.args.state.now.free in
    let fits = c.requires.parts.fits in
    let count = c.len.ensures.len in
    let no_more = c.if-len-gt0.false in
    let none : length free.own ≤ 0 = omega (arith, count, no_more) in
    let bare : (the_lane c.args.hand.now.me.0).chain ≡ []
    = subst (λ (first : Option Place). IsFirst first (the_lane c.args.hand.now.me.0).chain) (sym c.chain.ensures.first ∙ c.in_default.is) fits.stores.first in
    let opened = c.opened.ensures.opened in
    let isnt = c.if-opened-gt0.false in
    let closed : c.args.state.now.pages.opened ≡ 0 = omega (arith, opened, isnt) in
    halts-none _ c.args.limit fits.seat.one (fits.seat.legal, fits.seat.own, fits.seat.quiet, fits.seat.owners)
    (closed-none (caller_of c.args.self.now.shape c.args.hand.now.me.0) free.own (the_lane c.args.hand.now.me.0).chain c.args.state.now.pages.opened none bare closed)
