use Rattle.poolsteps.specs.Views.{the_lane}
-- A get whose share is lent: what its lane keeps is as if the share were in its row.
use Rattle.std.proofs.Common.{◌≡◌, inr, ℕ, List, [], ◌∷◌, Some, None, refl, sym, ap, ◌∙◌, subst, arith, slice_get, slice_set, slice_index_or}
use Rattle.std.proofs.lemmas.Bool.{false≢true}
use Rattle.std.specs.declared.alloc.Global.{Global}
use Rattle.std_alloc.specs.declared.vec.Vec.{Vec}
use Rattle.std.specs.Vec.{with_item}
use Rattle.keybits.specs.Keys.{is_key, place_of, generation_of}
use Rattle.seqpool.specs.declared.act.Act.TheVariants as acts
use Rattle.seqpool.specs.Pool.{IsLegal}
use Rattle.steplaws.specs.Calls.Call.{Getting}
use Rattle.poolsteps.specs.Layout.{slot_start}
use Rattle.poolsteps.specs.Spot.{Spot as CellSpot}
use Rattle.steplaws.proofs.Lives.{most-lane}
use Rattle.seatcalls.specs.Called.{Called, GetHits}
use Rattle.seatcalls.specs.Carried.{Carries}
use Rattle.shardpool.specs.HeldKeys.{HeldKey}
use Rattle.shardpool.specs.declared.pool.LaneState.{LaneState}
use Rattle.shardpool.specs.Tokens.{LaneOf}
use Rattle.seatcalls.proofs.parts.Moves.{carries-out}
use Rattle.seatcalls.proofs.parts.Standing.{has-left, lawful}
use Rattle.seatcalls.proofs.parts.Calling.{called-after, acts-behind, life-under, get-hits, hit-tells, get-misses}
use Rattle.shardpool.proofs.calls.CallParts.{calls-more}
use Rattle.shardpool.proofs.calls.Gets.{Gained, called-then, seen-within}
use Rattle.shardpool.proofs.calls.AfterCalls.{get-missed, get-found, get-outside}
use Rattle.shardpool.proofs.frame.SeenHistories.{same-directory}
use Rattle.shardpool.proofs.calls.Ends.{fits-beside, keeper}
use Rattle.shardpool.proofs.calls.KeyCalls.{Ready, ready, missed-away, missed, hit-touches, hit-untouched, gained-first}
use Rattle.shardpool.proofs.calls.Loans.{keeper-rows, keeps-rows, bare-kept, bare-same, lending-made, loans-missed, loans-got, loan-begun, first-stood, seen-held}
use Rattle.shardpool.proofs.frame.LaneFacts.{lane_of}
use Rattle.shardpool.proofs.calls.QuietEnds.{Quieted}
use Rattle.shardpool.proofs.references.Standings.{stood-here}
use Rattle.shardpool.proofs.lending.LendingLane.lend.Given.{Over}
use Rattle.shardpool.proofs.lending.LendingLane.lend.Goals as goal

pub enter-found-requires-clause-key : goal.enter-found-requires-clause-key
enter-found-requires-clause-key g c = ap (λ p. is_key p.shape c.args.key) c.pool.view_is ∙ c.in_ok-spot.ensures.some.0 refl

pub enter-found-requires-clause-room : goal.enter-found-requires-clause-room
enter-found-requires-clause-room g c _ =
    let before = ready c.self.view_is c.requires.owns.1 c.pool.view_is c.self.invariant.1.fits c.in_ok-spot.ensures.spot in
    let most = seen-within before.fits c.args.key before.there.inside in
    let few = rw (← c.self.view_is) at c.requires.room in
    let all = before.fits.rows.by_acts in
    let own = before.fits.seat.number_is in
    let below = before.fits.seat.below in
    most-lane c.pool.inside.grid.shape (the_lane c.self.inside.hand.me.0).lane _ (omega (arith, own, below)) (omega (arith, most, few, all))

-- ---- a miss

pub end_miss-requires-clause-bare : goal.end_miss-requires-clause-bare
end_miss-requires-clause-bare g c = (c.enter-found.ensures.enters.1 (sym c.is_hit.ensures ∙ c.if-not-is_hit.true)).held ∙ c.self.invariant.0

pub end_miss-requires-clause-may : goal.end_miss-requires-clause-may
end_miss-requires-clause-may g c =
    let lending = c.self.invariant.1 in
    let before = ready c.self.view_is c.requires.owns.1 c.pool.view_is lending.fits c.in_ok-spot.ensures.spot in
    let opened = get-misses (ap (λ p. is_key p.shape c.args.key) c.pool.view_is ∙ c.in_ok-spot.ensures.some.0 refl) c.enter-found.ensures.enters (sym c.is_hit.ensures ∙ c.if-not-is_hit.true) in record {
      under = life-under (c.enter-found.ensures.enters.1 (sym c.is_hit.ensures ∙ c.if-not-is_hit.true));
      left = λ found after_leave leaves.
          let left = has-left (inr (opened.hit, opened.under)) leaves in (
            lawful {made = left.made} left.acted,
            keeper-rows lending.rows (keeper (fits-beside before.fits) (same-directory c.self.view_is c.requires.owns.2 c.pool.view_is) before.there.inside
                (left.acted.lane ∙ opened.opens.did.acted.lane) (left.pushed ∙ opened.opens.pushed)),
            λ after reclaimed ends acts_so told. missed-away before reclaimed (called-after opened refl leaves refl ends)
                (acts-behind opened refl leaves refl ends reclaimed acts_so, rw before.fits.seat.number_is at told),
          );
    }

module _ (g : Over) (c : goal.After-end_miss g) where
  abbrev missed-state : LaneState g.row.T.Denot
  missed-state = record c.end_miss.new.state { rows = c.self.invariant.1.rows }

  missed-called : Called c.pool.inside.grid.shape (Getting c.args.key) 34 c.self.inside.hand.me c.end_miss.new.hand.me
  missed-called =
      let opened = get-misses (ap (λ p. is_key p.shape c.args.key) c.pool.view_is ∙ c.in_ok-spot.ensures.some.0 refl) c.enter-found.ensures.enters (sym c.is_hit.ensures ∙ c.if-not-is_hit.true) in
      called-after opened refl c.end_miss.ensures.misses.leaves refl c.end_miss.ensures.misses.finishes.ends

  missed-left : Quieted g.T.Clear.content g.T.Clear.room c.pool.inside.grid.shape (acts.Get c.self.inside.state.number c.args.key None ∷ []) c.self.inside.hand.me.0 c.end_miss.new.hand.me.0
      (record c.self.inside.state { rows = c.self.invariant.1.rows }) missed-state
  missed-left =
      let lending = c.self.invariant.1 in
      let before = ready c.self.view_is c.requires.owns.1 c.pool.view_is lending.fits c.in_ok-spot.ensures.spot in
      let told = c.end_miss.ensures.misses.finishes in
      let opened = get-misses (ap (λ p. is_key p.shape c.args.key) c.pool.view_is ∙ c.in_ok-spot.ensures.some.0 refl) c.enter-found.ensures.enters (sym c.is_hit.ensures ∙ c.if-not-is_hit.true) in
      missed before told.reclaimed missed-state (keeps-rows lending.rows (place_of c.args.key) told.reclaimed c.self.inside.state c.end_miss.new.state told.kept) missed-called
      (acts-behind opened refl c.end_miss.ensures.misses.leaves refl told.ends told.reclaimed told.acts, rw before.fits.seat.number_is at told.told)

  missed-table : c.end_miss.new.hand.table_id ≡ c.self.inside.hand.table_id
  missed-table = c.end_miss.ensures.hand.0 ∙ c.enter-found.ensures.hand.0

pub invariant_of-self : goal.invariant_of-self
invariant_of-self g c =
    let told = c.end_miss.ensures.misses.finishes in (
      (missed-called g c).did.held ∙ c.self.invariant.0,
      lending-made c.self.invariant.1.rows (missed-left g c).fits (bare-kept (place_of c.args.key) told.reclaimed told.kept c.self.invariant.1.bare),
    )

pub returns-then-not-is_hit-clause-got : goal.returns-then-not-is_hit-clause-got
returns-then-not-is_hit-clause-got g c =
    let left = missed-left g c in
    let same = left.refs in
    get-missed {pool = c.args.pool.now} {key = c.args.key} {old = c.args.self.now} {new = lane_of c.end_miss.new.hand.table_id c.end_miss.new.hand.me.0 (missed-state g c)}
    c.requires.owns (c.in_ok-spot.ensures.some.0 refl)
    (rw (← c.pool.view_is, ← c.self.view_is) (calls-more (missed-called g c) (omega arith)))
    (rw (← c.self.view_is) (left.did c.self.inside.hand.table_id c.end_miss.new.hand.table_id (missed-table g c)))
    (rw (← c.self.view_is) same)
    (λ filling. rw (← c.self.view_is) (left.fillings c.self.inside.hand.table_id c.end_miss.new.hand.table_id (missed-table g c) filling))

pub returns-then-not-is_hit-clause-kept : goal.returns-then-not-is_hit-clause-kept
returns-then-not-is_hit-clause-kept g c =
    let before = ready c.self.view_is c.requires.owns.1 c.pool.view_is c.self.invariant.1.fits c.in_ok-spot.ensures.spot in
    rw (← c.self.view_is) (loans-missed before.fits (missed-left g c) (calls-more (missed-called g c) (omega arith)) refl c.self.inside.hand.table_id c.end_miss.new.hand.table_id (missed-table g c))

-- ---- a hit

pub out-share-requires-clause-may : goal.out-share-requires-clause-may
out-share-requires-clause-may g c =
    let before = ready c.self.view_is c.requires.owns.1 c.pool.view_is c.self.invariant.1.fits c.in_ok-spot.ensures.spot in
    hit-touches before (get-hits (ap (λ p. is_key p.shape c.args.key) c.pool.view_is ∙ c.in_ok-spot.ensures.some.0 refl) c.enter-found.ensures.enters (sym c.is_hit.ensures ∙ c.if-not-is_hit.false)) (hit-tells (ap (λ p. is_key p.shape c.args.key) c.pool.view_is ∙ c.in_ok-spot.ensures.some.0 refl) c.enter-found.ensures.enters (sym c.is_hit.ensures ∙ c.if-not-is_hit.false)) c.shares_law.ensures.held

pub out-share-requires-clause-left : goal.out-share-requires-clause-left
out-share-requires-clause-left g c =
    let before = ready c.self.view_is c.requires.owns.1 c.pool.view_is c.self.invariant.1.fits c.in_ok-spot.ensures.spot in
    let called = get-hits (ap (λ p. is_key p.shape c.args.key) c.pool.view_is ∙ c.in_ok-spot.ensures.some.0 refl) c.enter-found.ensures.enters (sym c.is_hit.ensures ∙ c.if-not-is_hit.false) in
    let got = hit-tells (ap (λ p. is_key p.shape c.args.key) c.pool.view_is ∙ c.in_ok-spot.ensures.some.0 refl) c.enter-found.ensures.enters (sym c.is_hit.ensures ∙ c.if-not-is_hit.false) in
    let row = first-stood before called got (seen-held c.args.key c.self.view_is c.requires.owns.1 c.pool.view_is c.requires.first) in
    hit-untouched before called got row.0 row.1 row.3

pub count_more-requires : goal.count_more-requires
count_more-requires g c =
    let few = rw (← c.self.view_is) at c.requires.room in
    let all = c.self.invariant.1.fits.rows.by_acts in omega (arith, few, all)

module _ (g : Over) (c : goal.After-filled g) where
  before : Ready g.T.Clear.content g.T.Clear.room c.pool.inside.grid.shape c.args.key c.in_ok-spot.spot c.self.inside.hand.me.0 (record c.self.inside.state { rows = c.self.invariant.1.rows })
  before = ready c.self.view_is c.requires.owns.1 c.pool.view_is c.self.invariant.1.fits c.in_ok-spot.ensures.spot

  first-called : Called c.pool.inside.grid.shape (Getting c.args.key) 34 c.self.inside.hand.me c.enter-found.new.hand.me
  first-called = get-hits (ap (λ p. is_key p.shape c.args.key) c.pool.view_is ∙ c.in_ok-spot.ensures.some.0 refl) c.enter-found.ensures.enters (sym c.is_hit.ensures ∙ c.if-not-is_hit.false)

  first-got : GetHits c.pool.inside.grid.shape c.args.key c.self.inside.hand.me c.enter-found.new.hand.me
  first-got = hit-tells (ap (λ p. is_key p.shape c.args.key) c.pool.view_is ∙ c.in_ok-spot.ensures.some.0 refl) c.enter-found.ensures.enters (sym c.is_hit.ensures ∙ c.if-not-is_hit.false)

  stood : (row : HeldKey g.row.T.Denot) × (row ≡ slice_index_or c.self.invariant.1.rows.items c.in_ok-spot.spot.start row)
      × (slice_get c.self.invariant.1.rows.items (slot_start c.pool.inside.grid.shape (place_of c.args.key)) ≡ Some row) × (row.count ≡ 0)
  stood = first-stood before first-called first-got (seen-held c.args.key c.self.view_is c.requires.owns.1 c.pool.view_is c.requires.first)

  -- the row as it would be with the share, the rows, and the state
  abbrev written : HeldKey g.row.T.Denot
  written = record { generation = generation_of c.args.key; count = 1; share = Some c.out-share.result }

  abbrev rows_now : Vec (HeldKey g.row.T.Denot) Global
  rows_now = with_item c.self.invariant.1.rows c.in_ok-spot.spot.start written

  abbrev lent-state : LaneState g.row.T.Denot
  lent-state = record c.count_more.new.state { rows = rows_now }

  first-left : Gained g.T.Clear.content g.T.Clear.room c.pool.inside.grid.shape c.args.key first-got.0 c.self.inside.hand.me.0 c.out-share.new.hand.me.0
      (record c.self.inside.state { rows = c.self.invariant.1.rows }) lent-state
  first-left =
      gained-first before first-called first-got stood.0 stood.1 lent-state (ap (λ (x : LaneState g.row.T.Denot). record x { rows = rows_now }) c.count_more.ensures)
      (same-directory c.self.view_is c.requires.owns.2 c.pool.view_is) stood.3 c.out-share.ensures.outs refl

  first-carries : Carries c.pool.inside.grid.shape (place_of c.args.key) 2 c.enter-found.new.hand.me c.out-share.new.hand.me
  first-carries =
      subst (λ (p : ℕ). Carries c.pool.inside.grid.shape p 2 c.enter-found.new.hand.me c.out-share.new.hand.me) c.in_ok-spot.ensures.spot.place_is (carries-out c.out-share.ensures.outs)

  table : c.out-share.new.hand.table_id ≡ c.self.inside.hand.table_id
  table = c.out-share.ensures.hand.0 ∙ c.enter-found.ensures.hand.0

  rows-so : rows_now.items ≡ slice_set c.self.invariant.1.rows.items (slot_start c.pool.inside.grid.shape (place_of c.args.key)) written
  rows-so = ap (λ (i : ℕ). slice_set c.self.invariant.1.rows.items i written) before.there.start

pub invariant_of-result : goal.invariant_of-result
invariant_of-result g c =
    let before = ready c.self.view_is c.requires.owns.1 c.pool.view_is c.self.invariant.1.fits c.in_ok-spot.ensures.spot in (
      c.out-share.result,
      c.filled.ensures,
      c.out-share.ensures.outs.is_left.spot_is ∙ ap (λ (n : ℕ). let spot : CellSpot = record { directory = c.pool.inside.grid.objects.ptr; index = n } in spot)
          (ap (slot_start c.pool.inside.grid.shape) before.there.place_is ∙ sym before.there.start),
    )

pub invariant_of-self-2 : goal.invariant_of-self-2
invariant_of-self-2 g c =
    let more = c.count_more.ensures in (
      (first-carries g c).held ∙ ((first-called g c).did.held ∙ c.self.invariant.0),
      lending-made (rows_now g c) (first-left g c).fits
          (bare-same (ap (λ (x : LaneState _). x.rows) more) (ap (λ (x : LaneState _). x.shape) more) (ap (λ (x : LaneState _). x.objects.directory) more) c.self.invariant.1.bare),
    )

pub returns-clause-got : goal.returns-clause-got
returns-clause-got g c =
    let left = first-left g c in
    get-found {pool = c.args.pool.now} {key = c.args.key} {old = c.args.self.now} {new = lane_of c.out-share.new.hand.table_id c.out-share.new.hand.me.0 (lent-state g c)}
    c.requires.owns (record { key = c.args.key }) (c.in_ok-spot.ensures.some.0 refl)
    (rw (← c.pool.view_is, ← c.self.view_is) (calls-more (called-then (first-called g c) (first-carries g c)) (omega arith)))
    (rw (← c.self.view_is) (refl, left.holds, (first-got g c).0, left.did c.self.inside.hand.table_id c.out-share.new.hand.table_id (table g c)))
    (rw (← c.self.view_is) left.refs)
    (λ filling. rw (← c.self.view_is) (left.fillings c.self.inside.hand.table_id c.out-share.new.hand.table_id (table g c) filling))

pub returns-clause-kept : goal.returns-clause-kept
returns-clause-kept g c =
    rw (← c.self.view_is) (loans-got (stood g c).0 (written g c) (before g c).fits (first-left g c) (before g c).there.inside (stood g c).2 (stood g c).3 (rows-so g c)
    c.self.inside.hand.table_id c.out-share.new.hand.table_id (table g c))

pub returns-clause-lent : goal.returns-clause-lent
returns-clause-lent g c = (
  refl,
  loan-begun (record { key = c.args.key; start = c.in_ok-spot.spot.start; share = c.filled.result }) c.out-share.result (first-left g c).fits c.filled.ensures (first-left g c).holds
      (before g c).there.start
      (λ row stands. let same : written g c ≡ row = stood-here c.self.invariant.1.rows.items (slot_start c.pool.inside.grid.shape (place_of c.args.key)) (written g c) row
      (ap (λ (xs : List (HeldKey _)). slice_get xs (slot_start c.pool.inside.grid.shape (place_of c.args.key))) (sym (rows-so g c)) ∙ stands) in
      ap (λ (r : HeldKey _). r.share) (sym same)) c.out-share.new.hand.table_id,
)

-- ---- it is no key of the pool

pub returns-in_err-spot-clause-got : goal.returns-in_err-spot-clause-got
returns-in_err-spot-clause-got g c =
    rw c.from_residual.ensures
    (get-outside {pool = c.args.pool.now} {key = c.args.key} {lane = c.args.self.now} c.requires.owns
    (subst (λ (lane : LaneOf). IsLegal lane.shape lane.book.seen) c.self.view_is c.self.invariant.1.fits.seat.legal)
    (λ is. absurd (false≢true (c.in_err-spot.ensures.some.1 is))))

pub returns-in_err-spot-clause-lent : goal.returns-in_err-spot-clause-lent
returns-in_err-spot-clause-lent g c = rw c.from_residual.ensures tt

pub returns-in_err-spot-clause-kept : goal.returns-in_err-spot-clause-kept
returns-in_err-spot-clause-kept g c loan lent = lent
