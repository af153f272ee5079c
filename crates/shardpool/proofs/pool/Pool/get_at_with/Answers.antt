use Rattle.poolsteps.specs.Views.{the_lane}
-- A get: what a miss leaves of the lane, and what a hit does whose key the lane has already, or not yet.
use Rattle.std.proofs.Common.{ℕ, inr, [], ◌∷◌, None, refl, sym, ap, ◌∙◌, subst, arith}
use Rattle.std.proofs.lemmas.Bool.{false≢true}
use Rattle.keybits.specs.Keys.{is_key}
use Rattle.seqpool.specs.declared.act.Act.TheVariants as acts
use Rattle.seqpool.specs.Pool.{IsLegal}
use Rattle.steplaws.specs.Calls.Call.{Getting}
use Rattle.steplaws.proofs.Lives.{most-lane}
use Rattle.seatcalls.specs.Called.{Called, GetHits}
use Rattle.seatcalls.proofs.parts.Moves.{carries-fetch}
use Rattle.seatcalls.specs.Carried.{Carries}
use Rattle.keybits.specs.Keys.{place_of}
use Rattle.shardpool.proofs.parts.Handing.{hands-none, hands-behind, hands-after}
use Rattle.seatcalls.proofs.parts.Standing.{has-left, lawful}
use Rattle.seatcalls.proofs.parts.Calling.{called-after, acts-behind, life-under, get-hits, hit-tells, get-misses}
use Rattle.shardpool.specs.Tokens.{LaneOf}
use Rattle.shardpool.proofs.calls.CallParts.{calls-more}
use Rattle.shardpool.proofs.calls.Gets.{Gained, called-then, seen-within}
use Rattle.shardpool.proofs.calls.Halts.{fits-own}
use Rattle.shardpool.proofs.calls.AfterCalls.{get-missed, get-found, get-outside}
use Rattle.shardpool.proofs.frame.SeenHistories.{same-directory}
use Rattle.shardpool.proofs.calls.Ends.{fits-beside, keeper}
use Rattle.shardpool.proofs.calls.KeyCalls.{ready, ready-low, ready-row, missed-away, missed, hit-touches, hit-left, gained-fetched}
use Rattle.shardpool.proofs.frame.LaneFacts.{lane_of}
use Rattle.shardpool.proofs.calls.QuietEnds.{Quieted}
use Rattle.shardpool.proofs.pool.Pool.get_at_with.Given.{Over}
use Rattle.shardpool.proofs.pool.Pool.get_at_with.Goals as goal

pub enter-found-requires-clause-key : goal.enter-found-requires-clause-key
enter-found-requires-clause-key g c = ap (λ p. is_key p.shape c.args.key) c.self.view_is ∙ c.in_ok-spot.ensures.some.0 refl

pub enter-found-requires-clause-room : goal.enter-found-requires-clause-room
enter-found-requires-clause-room g c _ =
    let before = ready c.lane.view_is c.requires.owns.1 c.self.view_is c.lane.invariant.1 c.in_ok-spot.ensures.spot in
    let most = seen-within before.fits c.args.key before.there.inside in
    let few = rw (← c.lane.view_is) at c.requires.room in
    let all = before.fits.rows.by_acts in
    let own = before.fits.seat.number_is in
    let below = before.fits.seat.below in
    most-lane c.self.inside.grid.shape (the_lane c.lane.inside.hand.me.0).lane _ (omega (arith, own, below)) (omega (arith, most, few, all))

-- ---- a miss

pub end_miss-requires-clause-bare : goal.end_miss-requires-clause-bare
end_miss-requires-clause-bare g c = (c.enter-found.ensures.enters.1 (sym c.is_hit.ensures ∙ c.if-not-is_hit.true)).held ∙ c.lane.invariant.0

pub end_miss-requires-clause-may : goal.end_miss-requires-clause-may
end_miss-requires-clause-may g c =
    let before = ready c.lane.view_is c.requires.owns.1 c.self.view_is c.lane.invariant.1 c.in_ok-spot.ensures.spot in
    let opened = get-misses (ap (λ p. is_key p.shape c.args.key) c.self.view_is ∙ c.in_ok-spot.ensures.some.0 refl) c.enter-found.ensures.enters (sym c.is_hit.ensures ∙ c.if-not-is_hit.true) in record {
      under = life-under (c.enter-found.ensures.enters.1 (sym c.is_hit.ensures ∙ c.if-not-is_hit.true));
      left = λ found after_leave leaves.
          let left = has-left (inr (opened.hit, opened.under)) leaves in (
            lawful {made = left.made} left.acted,
            keeper (fits-beside before.fits) (same-directory c.lane.view_is c.requires.owns.2 c.self.view_is) before.there.inside
                (left.acted.lane ∙ opened.opens.did.acted.lane) (left.pushed ∙ opened.opens.pushed),
            λ after reclaimed ends acts_so told. missed-away before reclaimed (called-after opened refl leaves refl ends)
                (acts-behind opened refl leaves refl ends reclaimed acts_so, rw before.fits.seat.number_is at told),
          );
    }

module _ (g : Over) (c : goal.After-end_miss g) where
  missed-called : Called c.self.inside.grid.shape (Getting c.args.key) 34 c.lane.inside.hand.me c.end_miss.new.hand.me
  missed-called =
      let opened = get-misses (ap (λ p. is_key p.shape c.args.key) c.self.view_is ∙ c.in_ok-spot.ensures.some.0 refl) c.enter-found.ensures.enters (sym c.is_hit.ensures ∙ c.if-not-is_hit.true) in
      called-after opened refl c.end_miss.ensures.misses.leaves refl c.end_miss.ensures.misses.finishes.ends

  missed-left : Quieted g.T.Clear.content g.T.Clear.room c.self.inside.grid.shape (acts.Get c.lane.inside.state.number c.args.key None ∷ []) c.lane.inside.hand.me.0 c.end_miss.new.hand.me.0 c.lane.inside.state c.end_miss.new.state
  missed-left =
      let before = ready c.lane.view_is c.requires.owns.1 c.self.view_is c.lane.invariant.1 c.in_ok-spot.ensures.spot in
      let told = c.end_miss.ensures.misses.finishes in
      let opened = get-misses (ap (λ p. is_key p.shape c.args.key) c.self.view_is ∙ c.in_ok-spot.ensures.some.0 refl) c.enter-found.ensures.enters (sym c.is_hit.ensures ∙ c.if-not-is_hit.true) in
      missed before told.reclaimed c.end_miss.new.state told.kept missed-called
      (acts-behind opened refl c.end_miss.ensures.misses.leaves refl told.ends told.reclaimed told.acts, rw before.fits.seat.number_is at told.told)

pub invariant_of-lane : goal.invariant_of-lane
invariant_of-lane g c =
    ((missed-called g c).did.held ∙ c.lane.invariant.0, fits-own (missed-left g c).fits)

pub returns-then-not-is_hit-clause-got : goal.returns-then-not-is_hit-clause-got
returns-then-not-is_hit-clause-got g c =
    let left = missed-left g c in
    let same = left.refs in
    get-missed {pool = c.args.self.now} {key = c.args.key} {old = c.args.lane.now} {new = lane_of c.end_miss.new.hand.table_id c.end_miss.new.hand.me.0 c.end_miss.new.state}
    c.requires.owns (c.in_ok-spot.ensures.some.0 refl)
    (rw (← c.self.view_is, ← c.lane.view_is) (calls-more (missed-called g c) (omega arith)))
    (rw (← c.lane.view_is) (left.did c.lane.inside.hand.table_id c.end_miss.new.hand.table_id (c.end_miss.ensures.hand.0 ∙ c.enter-found.ensures.hand.0)))
    (rw (← c.lane.view_is) same)
    (λ filling. rw (← c.lane.view_is) (left.fillings c.lane.inside.hand.table_id c.end_miss.new.hand.table_id (c.end_miss.ensures.hand.0 ∙ c.enter-found.ensures.hand.0) filling))

pub returns-then-not-is_hit-clause-hands : goal.returns-then-not-is_hit-clause-hands
returns-then-not-is_hit-clause-hands g c =
    let opened = get-misses (ap (λ p. is_key p.shape c.args.key) c.self.view_is ∙ c.in_ok-spot.ensures.some.0 refl) c.enter-found.ensures.enters (sym c.is_hit.ensures ∙ c.if-not-is_hit.true) in
    rw (← c.lane.view_is)
    (hands-after g.E.Emptier.takes c.lane.inside.hand.me.0 c.enter-found.new.hand.me.0 c.end_miss.new.hand.me.0 _ opened.opens.did.acted.mine (λ made took. took) c.end_miss.ensures.hands)

-- ---- a hit

pub gain_reference-requires-clause-at : goal.gain_reference-requires-clause-at
gain_reference-requires-clause-at g c =
    let before = ready c.lane.view_is c.requires.owns.1 c.self.view_is c.lane.invariant.1 c.in_ok-spot.ensures.spot in
    ready-low before

pub gain_reference-requires-clause-may : goal.gain_reference-requires-clause-may
gain_reference-requires-clause-may g c =
    let before = ready c.lane.view_is c.requires.owns.1 c.self.view_is c.lane.invariant.1 c.in_ok-spot.ensures.spot in
    hit-touches before (get-hits (ap (λ p. is_key p.shape c.args.key) c.self.view_is ∙ c.in_ok-spot.ensures.some.0 refl) c.enter-found.ensures.enters (sym c.is_hit.ensures ∙ c.if-not-is_hit.false)) (hit-tells (ap (λ p. is_key p.shape c.args.key) c.self.view_is ∙ c.in_ok-spot.ensures.some.0 refl) c.enter-found.ensures.enters (sym c.is_hit.ensures ∙ c.if-not-is_hit.false)) c.shares_law.ensures.held

pub gain_reference-requires-clause-left : goal.gain_reference-requires-clause-left
gain_reference-requires-clause-left g c =
    let before = ready c.lane.view_is c.requires.owns.1 c.self.view_is c.lane.invariant.1 c.in_ok-spot.ensures.spot in
    let row = ready-row before in
    hit-left before (get-hits (ap (λ p. is_key p.shape c.args.key) c.self.view_is ∙ c.in_ok-spot.ensures.some.0 refl) c.enter-found.ensures.enters (sym c.is_hit.ensures ∙ c.if-not-is_hit.false)) (hit-tells (ap (λ p. is_key p.shape c.args.key) c.self.view_is ∙ c.in_ok-spot.ensures.some.0 refl) c.enter-found.ensures.enters (sym c.is_hit.ensures ∙ c.if-not-is_hit.false)) row.0 row.1

module _ (g : Over) (c : goal.After-gain_reference g) where
  first-called : Called c.self.inside.grid.shape (Getting c.args.key) 34 c.lane.inside.hand.me c.enter-found.new.hand.me
  first-called = (get-hits (ap (λ p. is_key p.shape c.args.key) c.self.view_is ∙ c.in_ok-spot.ensures.some.0 refl) c.enter-found.ensures.enters (sym c.is_hit.ensures ∙ c.if-not-is_hit.false))

  first-got : GetHits c.self.inside.grid.shape c.args.key c.lane.inside.hand.me c.enter-found.new.hand.me
  first-got = (hit-tells (ap (λ p. is_key p.shape c.args.key) c.self.view_is ∙ c.in_ok-spot.ensures.some.0 refl) c.enter-found.ensures.enters (sym c.is_hit.ensures ∙ c.if-not-is_hit.false))

  first-left : Gained g.T.Clear.content g.T.Clear.room c.self.inside.grid.shape c.args.key first-got.0 c.lane.inside.hand.me.0 c.gain_reference.new.hand.me.0 c.lane.inside.state c.gain_reference.new.state
  first-left =
      let before = ready c.lane.view_is c.requires.owns.1 c.self.view_is c.lane.invariant.1 c.in_ok-spot.ensures.spot in
      let row = ready-row before in
      gained-fetched before first-called first-got row.0 row.1 c.gain_reference.new.state c.gain_reference.ensures.rest
      (same-directory c.lane.view_is c.requires.owns.2 c.self.view_is) (c.gain_reference.ensures.gains row.0 row.2)

  first-carries : Carries c.self.inside.grid.shape (place_of c.args.key) 2 c.enter-found.new.hand.me c.gain_reference.new.hand.me
  first-carries =
      let before = ready c.lane.view_is c.requires.owns.1 c.self.view_is c.lane.invariant.1 c.in_ok-spot.ensures.spot in
      let row = ready-row before in
      subst (λ (p : ℕ). Carries c.self.inside.grid.shape p 2 c.enter-found.new.hand.me c.gain_reference.new.hand.me) c.in_ok-spot.ensures.spot.place_is
      (carries-fetch (hit-left before first-called first-got row.0 row.1) (c.gain_reference.ensures.gains row.0 row.2).fetches)

pub invariant_of-lane-2 : goal.invariant_of-lane-2
invariant_of-lane-2 g c =
    ((first-carries g c).held ∙ ((first-called g c).did.held ∙ c.lane.invariant.0), fits-own (first-left g c).fits)

pub returns-clause-got : goal.returns-clause-got
returns-clause-got g c =
    let left = first-left g c in
    let table = c.gain_reference.ensures.hand.0 ∙ c.enter-found.ensures.hand.0 in
    get-found {pool = c.args.self.now} {key = c.args.key} {old = c.args.lane.now} {new = lane_of c.gain_reference.new.hand.table_id c.gain_reference.new.hand.me.0 c.gain_reference.new.state}
    c.requires.owns (record { key = c.args.key }) (c.in_ok-spot.ensures.some.0 refl)
    (rw (← c.self.view_is, ← c.lane.view_is) (calls-more (called-then (first-called g c) (first-carries g c)) (omega arith)))
    (rw (← c.lane.view_is) (refl, left.holds, (first-got g c).0, left.did c.lane.inside.hand.table_id c.gain_reference.new.hand.table_id table))
    (rw (← c.lane.view_is) left.refs)
    (λ filling. rw (← c.lane.view_is) (left.fillings c.lane.inside.hand.table_id c.gain_reference.new.hand.table_id table filling))

pub returns-clause-hands : goal.returns-clause-hands
returns-clause-hands g c =
    rw (← c.lane.view_is)
    (hands-after g.E.Emptier.takes c.lane.inside.hand.me.0 c.enter-found.new.hand.me.0 c.gain_reference.new.hand.me.0 _ (first-got g c).1.0 (λ made took. took)
    (hands-behind g.E.Emptier.takes c.enter-found.new.hand.me.0 c.gain_reference.new.hand.me.0 c.gain_reference.new.hand.me.0 (first-carries g c).elsewhere.mine
    (hands-none g.E.Emptier.takes c.gain_reference.new.hand.me.0 c.args.emptier.now)))

pub returns-clause-stands : goal.returns-clause-stands
returns-clause-stands g c = c.in_ok-spot.ensures.spot.start

-- ---- it is no key of the pool

pub returns-in_err-spot-clause-got : goal.returns-in_err-spot-clause-got
returns-in_err-spot-clause-got g c =
    rw c.from_residual.ensures
    (get-outside {pool = c.args.self.now} {key = c.args.key} {lane = c.args.lane.now} c.requires.owns
    (subst (λ (lane : LaneOf). IsLegal lane.shape lane.book.seen) c.lane.view_is c.lane.invariant.1.seat.legal)
    (λ is. absurd (false≢true (c.in_err-spot.ensures.some.1 is))))

pub returns-in_err-spot-clause-stands : goal.returns-in_err-spot-clause-stands
returns-in_err-spot-clause-stands g c = rw c.from_residual.ensures tt

pub returns-in_err-spot-clause-hands : goal.returns-in_err-spot-clause-hands
returns-in_err-spot-clause-hands g c = hands-none g.E.Emptier.takes c.args.lane.now.book c.args.emptier.now
