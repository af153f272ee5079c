-- What is taken hangs, or all is as before.
use Rattle.std.proofs.Common.{◌≡◌, ◌<◌, ℕ, true, false, List, [], Option, Some, None, is_some, refl, sym, ap, ◌∙◌, subst, arith}
use Rattle.std.proofs.lemmas.Bool.{false≢true}
use Rattle.keybits.specs.declared.shape.Shape.{Shape}
use Rattle.keybits.specs.declared.place.Place.{Place}
use Rattle.poolsteps.specs.Views.{the_lane}
use Rattle.seatcalls.specs.Called.{IsLawful}
use Rattle.shardpool.specs.LaneStates.{IsFirst}
use Rattle.shardpool.proofs.frame.SeenHistories.{same-shape}
use Rattle.shardpool.specs.Tokens.{LaneOf}
use Rattle.shardpool.specs.Lanes.{Made}
use Rattle.shardpool.specs.Creates.{TakesReturned}
use Rattle.shardpool.proofs.frame.LaneFacts.{lane_of}
use Rattle.shardpool.proofs.free.Takes.{collects-here, found-word, took-away, took-fits, took-takes, took-fillings, none-fits, none-takes, none-fillings}
use Rattle.shardpool.proofs.pool.Pool.take_returned.Goals.{then-is_some-via-then-is_some, then-is_some-via-else-is_some+then-opened-eq0}
use Rattle.shardpool.proofs.pool.Pool.take_returned.Goals as goal

isnt-low : {n : ℕ} → n ≡ 0 → 0 < n → ⊥
isnt-low none low = absurd (omega (arith, none, low))

unchained : (first : Option Place) → is_some first ≡ false → first ≡ None
unchained None _ = refl
unchained (Some place) isnt = absurd (false≢true (sym isnt))

hangs : (first : Option Place) (chain : List ℕ) → is_some first ≡ true → IsFirst first chain → chain ≡ [] → ⊥
hangs None chain is first empty = false≢true is
hangs (Some place) chain is first empty = absurd (cc (sym empty ∙ first))

-- ---- a taken place is still to be followed, or no page is opened

pub returns-then-is_some-clause-takes : goal.returns-then-is_some-clause-takes
returns-then-is_some-clause-takes g c = record {
  none = λ _. refl;
  some = λ empty low.
      absurd (elim c.then-is_some.branch [
        | then-is_some-via-then-is_some w ↦
            hangs c.lane.inside.state.free.chain (the_lane c.lane.inside.hand.me.0).chain
            (ap (λ (first : Option Place). is_some first) (sym c.chain.ensures.first) ∙ (sym c.is_some.ensures ∙ w.if-is_some.true))
            c.lane.invariant.1.stores.first (ap (λ (lane : LaneOf). (the_lane lane.book).chain) c.lane.view_is ∙ empty)
        | then-is_some-via-else-is_some+then-opened-eq0 w ↦
            let none : c.args.lane.now.pages.opened ≡ 0
            = ap (λ (lane : LaneOf). lane.pages.opened) (sym c.lane.view_is) ∙ (sym w.opened.ensures.opened ∙ w.if-opened-eq0.true) in
            isnt-low none low
      ]);
  same = (refl, refl, refl, refl);
  list = refl;
  pages = refl;
}

pub returns-then-is_some-clause-fillings : goal.returns-then-is_some-clause-fillings
returns-then-is_some-clause-fillings g c = λ filling made. made

-- ---- the stacks are taken

pub collect-found-requires-clause-lane : goal.collect-found-requires-clause-lane
collect-found-requires-clause-lane g c =
    let seat = c.lane.invariant.1.seat in
    (seat.number_is, subst (λ (z : Shape). c.lane.inside.state.number < z.lanes) (sym (same-shape c.lane.view_is c.requires.owns.1 c.self.view_is)) seat.below)

pub collect-found-requires-clause-seen : goal.collect-found-requires-clause-seen
collect-found-requires-clause-seen g c =
    let seat = c.lane.invariant.1.seat in
    (subst (λ (z : Shape). IsLawful z c.lane.inside.hand.me.0) (sym (same-shape c.lane.view_is c.requires.owns.1 c.self.view_is)) (seat.legal, seat.own, seat.quiet, seat.owners), seat.paired)

pub collect-found-requires-clause-chain : goal.collect-found-requires-clause-chain
collect-found-requires-clause-chain g c =
    let none : c.lane.inside.state.free.chain ≡ None = sym c.chain.ensures.first ∙ unchained c.chain.result (sym c.is_some.ensures ∙ c.if-is_some.false) in
    subst (λ (first : Option Place). IsFirst first (the_lane c.lane.inside.hand.me.0).chain) none c.lane.invariant.1.stores.first

pub hang-requires-clause-word : goal.hang-requires-clause-word
hang-requires-clause-word g c =
    let opened = c.opened.ensures.opened in
    let isnt = c.if-opened-eq0.false in
    let low : 0 < c.lane.inside.state.pages.opened = omega (arith, opened, isnt) in
    found-word c.if-found-ne0.true (c.collect-found.ensures.collects c.lane.inside.state.pages.opened low)

pub hang-requires-clause-away : goal.hang-requires-clause-away
hang-requires-clause-away g c =
    let fits = c.lane.invariant.1 in
    let opened = c.opened.ensures.opened in
    let isnt = c.if-opened-eq0.false in
    let low : 0 < c.lane.inside.state.pages.opened = omega (arith, opened, isnt) in
    let collects = collects-here c.lane.view_is c.requires.owns.1 c.self.view_is (c.collect-found.ensures.collects c.lane.inside.state.pages.opened low) in
    let none : c.lane.inside.state.free.chain ≡ None = sym c.chain.ensures.first ∙ unchained c.chain.result (sym c.is_some.ensures ∙ c.if-is_some.false) in
    took-away fits c.if-found-ne0.true none collects

pub invariant_of-lane : goal.invariant_of-lane
invariant_of-lane g c =
    let fits = c.lane.invariant.1 in
    let opened = c.opened.ensures.opened in
    let isnt = c.if-opened-eq0.false in
    let low : 0 < c.lane.inside.state.pages.opened = omega (arith, opened, isnt) in
    let collects = collects-here c.lane.view_is c.requires.owns.1 c.self.view_is (c.collect-found.ensures.collects c.lane.inside.state.pages.opened low) in
    let none : c.lane.inside.state.free.chain ≡ None = sym c.chain.ensures.first ∙ unchained c.chain.result (sym c.is_some.ensures ∙ c.if-is_some.false) in
    ((c.collect-found.ensures.collects c.lane.inside.state.pages.opened low).held ∙ c.lane.invariant.0, took-fits fits c.if-found-ne0.true none collects c.hang.ensures)

pub invariant_of-lane-else-found-ne0 : goal.invariant_of-lane-else-found-ne0
invariant_of-lane-else-found-ne0 g c =
    let fits = c.lane.invariant.1 in
    let opened = c.opened.ensures.opened in
    let isnt = c.if-opened-eq0.false in
    let low : 0 < c.lane.inside.state.pages.opened = omega (arith, opened, isnt) in
    let collects = collects-here c.lane.view_is c.requires.owns.1 c.self.view_is (c.collect-found.ensures.collects c.lane.inside.state.pages.opened low) in
    ((c.collect-found.ensures.collects c.lane.inside.state.pages.opened low).held ∙ c.lane.invariant.0, none-fits fits c.if-found-ne0.false collects)

pub returns-then-found-ne0-clause-takes : goal.returns-then-found-ne0-clause-takes
returns-then-found-ne0-clause-takes g c =
    let fits = c.lane.invariant.1 in
    let opened = c.opened.ensures.opened in
    let isnt = c.if-opened-eq0.false in
    let low : 0 < c.lane.inside.state.pages.opened = omega (arith, opened, isnt) in
    let collects = collects-here c.lane.view_is c.requires.owns.1 c.self.view_is (c.collect-found.ensures.collects c.lane.inside.state.pages.opened low) in
    let none : c.lane.inside.state.free.chain ≡ None = sym c.chain.ensures.first ∙ unchained c.chain.result (sym c.is_some.ensures ∙ c.if-is_some.false) in
    let new : LaneOf = lane_of c.collect-found.new.hand.table_id c.collect-found.new.hand.me.0 c.hang.new.state in
    subst (λ (lane : LaneOf). TakesReturned lane new) c.lane.view_is
    (took-takes fits c.if-found-ne0.true none collects c.hang.ensures c.lane.inside.hand.table_id c.collect-found.new.hand.table_id c.collect-found.ensures.hand.0 low)

pub returns-then-found-ne0-clause-fillings : goal.returns-then-found-ne0-clause-fillings
returns-then-found-ne0-clause-fillings g c = λ filling made.
    let fits = c.lane.invariant.1 in
    let opened = c.opened.ensures.opened in
    let isnt = c.if-opened-eq0.false in
    let low : 0 < c.lane.inside.state.pages.opened = omega (arith, opened, isnt) in
    let collects = collects-here c.lane.view_is c.requires.owns.1 c.self.view_is (c.collect-found.ensures.collects c.lane.inside.state.pages.opened low) in
    let none : c.lane.inside.state.free.chain ≡ None = sym c.chain.ensures.first ∙ unchained c.chain.result (sym c.is_some.ensures ∙ c.if-is_some.false) in
    took-fillings fits c.if-found-ne0.true none collects c.hang.ensures c.lane.inside.hand.table_id c.collect-found.new.hand.table_id c.collect-found.ensures.hand.0 filling
    (subst (λ (lane : LaneOf). Made lane filling) (sym c.lane.view_is) made)

pub returns-else-found-ne0-clause-takes : goal.returns-else-found-ne0-clause-takes
returns-else-found-ne0-clause-takes g c =
    let fits = c.lane.invariant.1 in
    let opened = c.opened.ensures.opened in
    let isnt = c.if-opened-eq0.false in
    let low : 0 < c.lane.inside.state.pages.opened = omega (arith, opened, isnt) in
    let collects = collects-here c.lane.view_is c.requires.owns.1 c.self.view_is (c.collect-found.ensures.collects c.lane.inside.state.pages.opened low) in
    let none : c.lane.inside.state.free.chain ≡ None = sym c.chain.ensures.first ∙ unchained c.chain.result (sym c.is_some.ensures ∙ c.if-is_some.false) in
    let new : LaneOf = lane_of c.collect-found.new.hand.table_id c.collect-found.new.hand.me.0 c.lane.inside.state in
    subst (λ (lane : LaneOf). TakesReturned lane new) c.lane.view_is
    (none-takes fits c.if-found-ne0.false collects c.lane.inside.hand.table_id c.collect-found.new.hand.table_id c.collect-found.ensures.hand.0 none low)

pub returns-else-found-ne0-clause-fillings : goal.returns-else-found-ne0-clause-fillings
returns-else-found-ne0-clause-fillings g c = λ filling made.
    let fits = c.lane.invariant.1 in
    let opened = c.opened.ensures.opened in
    let isnt = c.if-opened-eq0.false in
    let low : 0 < c.lane.inside.state.pages.opened = omega (arith, opened, isnt) in
    let collects = collects-here c.lane.view_is c.requires.owns.1 c.self.view_is (c.collect-found.ensures.collects c.lane.inside.state.pages.opened low) in
    none-fillings fits c.if-found-ne0.false collects c.lane.inside.hand.table_id c.collect-found.new.hand.table_id c.collect-found.ensures.hand.0 filling
    (subst (λ (lane : LaneOf). Made lane filling) (sym c.lane.view_is) made)
