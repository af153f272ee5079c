-- What the calls of a lane that lends leave of what it keeps, and of what it lent.
use Rattle.std.proofs.Common.{◌≡◌, ◌≢◌, inl, ℕ, ◌+◌, ◌-◌, ◌<◌, ◌≤◌, Bool, true, false, cond, eqb, List, [], ◌∷◌, length, Option, Some, None, IfSome, refl, sym, ap, ◌∙◌, subst, arith, eq-eqb, ne_eqb, slice_get, slice_set, slice_index_or}
use Rattle.std.specs.Prelude.{sum_by}
use Rattle.std.specs.declared.alloc.Global.{Global}
use Rattle.std_alloc.specs.declared.vec.Vec.{Vec}
use Rattle.std.specs.Vec.{with_item}
use Rattle.std.proofs.lemmas.Option.{slice_get_within, get_or_from_slice_get}
use Rattle.std.proofs.lemmas.List.Sums.{get_or-le-sum_by}
use mathlib.Core.List.{IsPrefix}
use mathlib.Core.Logic.{dite}
use native.Mathlib.Decide.{ℕ_discrete}
use denote.RawPtr.{Ptr}
use Rattle.atomic_table.specs.Table.{Me}
use Rattle.atomic_table.specs.Seated.{TableId}
use Rattle.keybits.specs.declared.shape.Shape.{Shape}
use Rattle.keybits.specs.Shapes.{is_place}
use Rattle.freelists.specs.Queues.{IsAway}
use Rattle.freelists.specs.Shards.{place_numbered}
use Rattle.keybits.specs.Keys.{place_of, generation_of}
use Rattle.seqpool.specs.declared.act.Act.TheVariants as acts
use Rattle.seqpool.specs.Histories.{PublishedAt}
use Rattle.seqpool.proofs.Ranks.{same-key}
use Rattle.steplaws.specs.Calls.Call.{Getting, Releasing}
use Rattle.poolsteps.specs.declared.view.Stored.{Stored}
use Rattle.poolsteps.specs.declared.view.Status.TheVariants.{Untouched}
use Rattle.poolsteps.specs.declared.grid.Spot.{Spot}
use Rattle.poolsteps.specs.declared.view.View.{View}
use Rattle.poolsteps.specs.Views.{the_lane, status_of}
use Rattle.poolsteps.specs.Spot.{Spot as CellSpot}
use Rattle.poolsteps.specs.Share.{Share}
use Rattle.poolsteps.specs.Whole.{Whole}
use Rattle.poolsteps.specs.Layout.{slot_start, slot_row}
use Rattle.poolsteps.specs.Told.{Sees, Leaves, MayLeave, references_seen}
use Rattle.poolsteps.specs.Moved.{stored_of, Backs}
use Rattle.poolsteps.proofs.SlotLemmas.{start-injective}
use Rattle.seatcalls.specs.declared.at.Reclaimed.{Reclaimed}
use Rattle.seatcalls.specs.declared.at.Reclaimed.TheVariants.{Own, Returned, Retired}
use Rattle.shardpool.specs.declared.pool.LaneState.{LaneState}
use Rattle.shardpool.specs.HeldKeys.{HeldKey}
use Rattle.seatcalls.specs.Called.{Called, GetHits, Ends, EndsWithActs, IsReclaimed}
use Rattle.shardpool.specs.Stores.{Keeps}
use Rattle.shardpool.specs.Finishes.{IsKeeper}
use Rattle.shardpool.specs.Lendings.{LendsHome}
use Rattle.shardpool.specs.LaneStates.{IsHeld, FitsRow, Fits}
use Rattle.shardpool.specs.Tokens.{PoolOf, LaneOf}
use Rattle.shardpool.specs.Lanes.{SameLane, Calls, Did, holds}
use Rattle.shardpool.specs.Loans.{LoanOf, IsLent, AreBare, FitsLending, KeepsLoans, KeepsOtherLoans}
use Rattle.shardpool.proofs.frame.LaneFacts.{lane_of}
use Rattle.shardpool.proofs.frame.LaneFrames.{passes-sees}
use Rattle.shardpool.proofs.frame.SeenHistories.{same-shape, fits-sees, did-none}
use Rattle.shardpool.proofs.frame.Standing.{published-later, seen-of}
use Rattle.shardpool.proofs.references.Holdings.{get-holds}
use Rattle.shardpool.proofs.references.Rows.{either-same}
use Rattle.shardpool.proofs.references.RowChanges.{rows-stand, rows-got-again}
use Rattle.shardpool.proofs.references.Standings.{standing-same, stood-else, stood-here}
use Rattle.seatcalls.proofs.parts.Moves.{back-moves, moves-here, carries-back}
use Rattle.seatcalls.proofs.parts.Doing.{did-carries}
use Rattle.seatcalls.proofs.parts.Calling.{release-called, release-acts}
use Rattle.shardpool.proofs.calls.Ends.{keeper}
use Rattle.shardpool.proofs.calls.Gets.{Gained, seen-within, hit-again, hit-still, hit-key}
use Rattle.shardpool.proofs.calls.KeyCalls.{Ready, ready-row}
use Rattle.shardpool.proofs.calls.QuietEnds.{Quieted}
use Rattle.shardpool.proofs.calls.Releases.{Refers, Released, EndsAt, beside, lent-some, lent-share, released, released-away, place-inside, key-inside, standing, row-fits, row-counts}

-- ---- numbers

more-got : (b : Bool) (n : ℕ) → 1 ≤ n → 1 ≤ cond b (n + 1) n
more-got true n some = omega (arith, some)
more-got false n some = some

-- a lane has as many references to a key as its view tells
pub seen-held : {view lane : LaneOf} {grid pool : PoolOf} {n : ℕ} (key : ℕ) → view ≡ lane → lane.shape ≡ pool.shape → grid ≡ pool → holds lane key ≡ n → references_seen grid.shape view.book key ≡ n
seen-held {view = view} key seen owned of_pool is =
    ap (λ (y : Shape). references_seen y view.book key) (same-shape seen owned of_pool) ∙ (ap (λ (l : LaneOf). holds l key) seen ∙ is)

-- ---- a state with other rows

module _ {T : Type 0} (rows : Vec (HeldKey T) Global) where
  abbrev with_rows : LaneState T → LaneState T
  with_rows s = record s { rows = rows }

  -- what becomes of a place is kept whatever the rows are
  pub keeps-rows : (place : ℕ) (reclaimed : Option (Reclaimed T)) (s t : LaneState T) → Keeps place reclaimed s t → Keeps place reclaimed (record s { rows = rows }) (record t { rows = rows })
  keeps-rows place None s t kept = ap with_rows kept
  keeps-rows place (Some (Own whole)) s t kept = record { objects = kept.objects; rights = kept.rights; same = kept.same; list = kept.list; free = kept.free; rest = ap with_rows kept.rest }
  keeps-rows place (Some Returned) s t kept = record { last_pushed = kept.last_pushed; rest = ap with_rows kept.rest }
  keeps-rows place (Some Retired) s t kept = ap with_rows kept

  pub keeper-rows : {z : Shape} {directory : Ptr} {place : ℕ} {v : View} {s : LaneState T} → IsKeeper z directory place v (record s { rows = rows }) → IsKeeper z directory place v s
  keeper-rows keeper = record {
    shape = keeper.shape;
    shape_is = keeper.shape_is;
    directory_is = keeper.directory_is;
    narrow = keeper.narrow;
    wide = keeper.wide;
    begins = keeper.begins;
    lane = keeper.lane;
    below = keeper.below;
    top = keeper.top;
  }

module _ {T : Type 0} where
  -- and it leaves the rows
  pub keeps-same : (place : ℕ) (reclaimed : Option (Reclaimed T)) (s t : LaneState T) → Keeps place reclaimed s t
      → (t.rows ≡ s.rows) × (t.shape ≡ s.shape) × (t.objects.directory ≡ s.objects.directory)
  keeps-same place None s t kept = (ap (λ (x : LaneState T). x.rows) kept, ap (λ (x : LaneState T). x.shape) kept, ap (λ (x : LaneState T). x.objects.directory) kept)
  keeps-same place (Some (Own whole)) s t kept = (ap (λ (x : LaneState T). x.rows) kept.rest, ap (λ (x : LaneState T). x.shape) kept.rest, kept.same.0)
  keeps-same place (Some Returned) s t kept =
      (ap (λ (x : LaneState T). x.rows) kept.rest, ap (λ (x : LaneState T). x.shape) kept.rest, ap (λ (x : LaneState T). x.objects.directory) kept.rest)
  keeps-same place (Some Retired) s t kept = (ap (λ (x : LaneState T). x.rows) kept, ap (λ (x : LaneState T). x.shape) kept, ap (λ (x : LaneState T). x.objects.directory) kept)

  -- the same rows of the same directory count none
  pub bare-same : {s t : LaneState T} → t.rows ≡ s.rows → t.shape ≡ s.shape → t.objects.directory ≡ s.objects.directory → AreBare s → AreBare t
  bare-same rows shape directory bare = record {
    wide = ap (λ (r : Vec (HeldKey T) Global). length r.items) rows ∙ (bare.wide ∙ ap slot_row (sym shape));
    none = ap (λ (r : Vec (HeldKey T) Global). sum_by (λ (row : HeldKey T). row.count) r.items) rows ∙ bare.none;
    standing = standing-same (ap (λ (r : Vec (HeldKey T) Global). r.items) rows) directory bare.standing;
  }

  pub bare-kept : (place : ℕ) (reclaimed : Option (Reclaimed T)) {s t : LaneState T} → Keeps place reclaimed s t → AreBare s → AreBare t
  bare-kept place reclaimed {s = s} {t = t} kept bare = let same = keeps-same place reclaimed s t kept in bare-same same.0 same.1 same.2 bare

module _ {T : Type 0} where
  -- the rows that nobody wrote have the same shares
  pub same-rows : {rows after : List (HeldKey T)} → after ≡ rows → (i : ℕ) (one two : HeldKey T) → slice_get rows i ≡ Some one → slice_get after i ≡ Some two → two.share ≡ one.share
  same-rows {rows = rows} same i one two stands stands_now =
      let both : Some two ≡ Some one = sym stands_now ∙ (ap (λ (xs : List (HeldKey T)). slice_get xs i) same ∙ stands) in
      let is : two ≡ one = cc both in ap (λ (r : HeldKey T). r.share) is

  -- nor has a row changed whose place wasn't written
  pub else-rows : {after : List (HeldKey T)} (rows : List (HeldKey T)) (i j : ℕ) (written : HeldKey T) → after ≡ slice_set rows i written → j ≢ i
      → (one two : HeldKey T) → slice_get rows j ≡ Some one → slice_get after j ≡ Some two → two.share ≡ one.share
  else-rows rows i j written is other one two stands stands_now =
      same-rows refl j one two stands (stood-else rows i j written two other (ap (λ (xs : List (HeldKey T)). slice_get xs j) (sym is) ∙ stands_now))

module _ {T : Type 0} {content : T → List ℕ} {room : T → ℕ} where
  -- ---- a lane begins to lend, and ends

  pub lending-made : {z : Shape} {v : View} {s : LaneState T} (rows : Vec (HeldKey T) Global) → Fits content room z v (record s { rows = rows }) → AreBare s → FitsLending content room s.shape v s
  lending-made {v = v} {s = s} rows fits bare = record {
    rows = rows;
    fits = subst (λ (z : Shape). Fits content room z v (record s { rows = rows })) (sym fits.shape_is) fits;
    bare = bare;
  }

  pub lending-of : {v : View} {s : LaneState T} → Fits content room s.shape v s → s.references ≡ 0 → FitsLending content room s.shape v s
  lending-of {s = s} fits none = record { rows = s.rows; fits = fits; bare = record { wide = fits.rows.wide; none = fits.rows.total ∙ none; standing = fits.standing } }

  module _ {v : View} {s : LaneState T} (lending : FitsLending content room s.shape v s) (none : s.references ≡ 0) where
    none-counted : (i : ℕ) (row : HeldKey T) → slice_get s.rows.items i ≡ Some row → row.count ≡ 0
    none-counted i row stands =
        let most = get_or-le-sum_by (λ (r : HeldKey T). r.count) s.rows.items i row (slice_get_within s.rows.items i row stands) in
        let is = ap (λ (r : HeldKey T). r.count) (get_or_from_slice_get s.rows.items i row row stands) in
        let all = lending.bare.none in omega (arith, most, is, all)

    none-refers : (key : ℕ) → is_place s.shape (place_of key) ≡ true → references_seen s.shape v key ≡ 0
    none-refers key inside =
        let within = seen-within lending.fits key inside in
        let all = lending.fits.rows.by_acts in omega (arith, within, all, none)

    bare-row : (place : ℕ) (row : HeldKey T) → is_place s.shape place ≡ true → row.count ≡ 0 → FitsRow content room s.shape v place row
    bare-row place row inside zero = record {
      counts = λ key inside_key here.
          none-refers key (subst (λ (p : ℕ). is_place s.shape p ≡ true) (sym here) inside)
          ∙ sym (ap (λ (n : ℕ). cond (eqb (generation_of key) row.generation) n 0) zero ∙ either-same (eqb (generation_of key) row.generation) 0);
      keyed = λ some. absurd (omega (arith, some, zero));
      held = λ some. absurd (omega (arith, some, zero));
    }

    pub lending-ends : Fits content room s.shape v s
    lending-ends = record {
      shape_is = lending.fits.shape_is;
      placed = lending.fits.placed;
      seat = lending.fits.seat;
      last_pushed = lending.fits.last_pushed;
      rows = record {
        wide = lending.bare.wide;
        total = lending.bare.none ∙ sym none;
        by_acts = lending.fits.rows.by_acts;
        each = λ place row inside stands. bare-row place row inside (none-counted (slot_start s.shape place) row stands);
      };
      stores = lending.fits.stores;
      rights = lending.fits.rights;
      standing = lending.bare.standing;
    }

  -- ---- what was lent is lent still

  module _ {z : Shape} {v w : View} {s t : LaneState T} (fits : Fits content room z v s) (now : Fits content room z w t) (key : ℕ)
      (was : 0 < references_seen z v key) (is : 0 < references_seen z w key)
      (same : (row after : HeldKey T) → slice_get s.rows.items (slot_start z (place_of key)) ≡ Some row → slice_get t.rows.items (slot_start z (place_of key)) ≡ Some after → after.share ≡ row.share) where
    -- the share under the references to a key is held still, where it is the row's
    held-still : (share : Share T) → IsHeld content room z v (place_of key) (generation_of key) share → IsHeld content room z w (place_of key) (generation_of key) share
    held-still share held =
        let place : ℕ = place_of key in
        let one = standing s key fits was in
        let two = standing t key now is in
        let first = (row-fits s key fits was one.0 one.1).held (row-counts s key fits was one.0 one.1).2 in
        let counts = row-counts t key now is two.0 two.1 in
        let second = (row-fits t key now is two.0 two.1).held counts.2 in
        let both : Some second.0 ≡ Some first.0 = sym second.1 ∙ (same one.0 two.0 one.1 two.1 ∙ first.1) in
        let one_share : second.0 ≡ first.0 = cc both in
        let stored : stored_of content room share ≡ stored_of content room second.0
        = sym held.known ∙ (first.2.known ∙ ap (stored_of content room) (sym one_share)) in
        let shown : content share.object ≡ content second.0.object = ap (λ (c : Stored). c.content) stored in record {
          number_is = held.number_is ∙ (sym first.2.number_is ∙ (ap (λ (x : Share T). x.number) (sym one_share) ∙ second.2.number_is));
          of_is = held.of_is;
          emptied = second.2.emptied;
          known = second.2.known ∙ sym stored;
          shows = λ k inside here g.
              let at = second.2.shows k inside here (g ∙ counts.1) in
              (at.0, subst (λ (bytes : List ℕ). PublishedAt w.seen at.0 k bytes) (sym shown) at.1);
        }

  -- over a call, where the lane has references to the key still
  pub loan-stays : {z : Shape} {v w : View} {s t : LaneState T} (table table_now : TableId) (loan : LoanOf T) → Fits content room z v s → Fits content room z w t
      → SameLane (lane_of table v s) (lane_of table_now w t) → IsPrefix v.seen w.seen → 1 ≤ holds (lane_of table_now w t) loan.key
      → (0 < references_seen z v loan.key → (row after : HeldKey T) → slice_get s.rows.items (slot_start z (place_of loan.key)) ≡ Some row
      → slice_get t.rows.items (slot_start z (place_of loan.key)) ≡ Some after → after.share ≡ row.share)
      → IsLent content room (lane_of table v s) loan → IsLent content room (lane_of table_now w t) loan
  loan-stays {z = z} {v = v} {w = w} {s = s} {t = t} table table_now loan fits now lane seen held same lent =
      let was : 0 < references_seen z v loan.key = (let some = subst (λ (y : Shape). 1 ≤ references_seen y v loan.key) fits.shape_is lent.held in omega (arith, some)) in
      let is : 0 < references_seen z w loan.key = (let some = subst (λ (y : Shape). 1 ≤ references_seen y w loan.key) now.shape_is held in omega (arith, some)) in
      let under = subst (λ (y : Shape). IsHeld content room y v (place_of loan.key) (generation_of loan.key) lent.share) fits.shape_is lent.under in record {
        held = held;
        start = lent.start ∙ ap (λ (y : Shape). slot_start y (place_of loan.key)) (sym lane.1);
        share = lent.share;
        share_is = lent.share_is;
        spot = lent.spot ∙ ap (λ (p : Ptr). let spot : CellSpot = record { directory = p; index = loan.start } in spot) (sym lane.3);
        under = subst (λ (y : Shape). IsHeld content room y w (place_of loan.key) (generation_of loan.key) lent.share) (sym now.shape_is)
            (held-still fits now loan.key was is (same was) lent.share under);
        shows = (lent.shows.0, published-later v.seen w.seen lent.shows.0 loan.key (content lent.share.object) seen lent.shows.1);
      }

  -- ---- looks

  pub loans-seen : {a b : Me (Option (Share T)) View} {s : LaneState T} → Sees s.shape a b → Fits content room s.shape a.0 s → (table table_now : TableId) → table_now ≡ table
      → KeepsLoans content room (lane_of table a.0 s) (lane_of table_now b.0 s)
  loans-seen {a = a} {b = b} {s = s} sees fits table table_now same loan lent =
      let did : Did [] (lane_of table a.0 s) (lane_of table_now b.0 s) = did-none (passes-sees sees) fits.seat (same, refl, refl, refl) refl refl refl in
      loan-stays table table_now loan fits (fits-sees sees fits) did.same (seen-of did.goes) (subst (λ (n : ℕ). 1 ≤ n) (sym (did.held loan.key)) lent.held)
      (λ some. same-rows refl (slot_start s.shape (place_of loan.key))) lent

  -- ---- a get that misses

  pub loans-missed : {z : Shape} {v w : View} {s t : LaneState T} {key : ℕ} → Fits content room z v s → Quieted content room z (acts.Get s.number key None ∷ []) v w s t → Calls z (Getting key) v w
      → t.rows.items ≡ s.rows.items → (table table_now : TableId) → table_now ≡ table → KeepsLoans content room (lane_of table v s) (lane_of table_now w t)
  loans-missed {z = z} fits left called rows table table_now same loan lent =
      let did = (left.did table table_now same).1 in
      let held = get-holds {z = z} called did loan.key in
      loan-stays table table_now loan fits left.fits did.same (seen-of did.goes) (subst (λ (n : ℕ). 1 ≤ n) (sym held) lent.held)
      (λ some. same-rows rows (slot_start z (place_of loan.key))) lent

  -- ---- a get that hits, of a key to which the lane had no reference

  module _ {z : Shape} {key looks : ℕ} {spot : Spot} {a b : Me (Option (Share T)) View} {s : LaneState T} (before : Ready content room z key spot a.0 s)
      (called : Called z (Getting key) looks a b) (got : GetHits z key a b) (none : references_seen z a.0 key ≡ 0) (row : HeldKey T)
      (stood : slice_get s.rows.items (slot_start z (place_of key)) ≡ Some row) where
    -- its place has none
    pub first-row : row.count ≡ 0
    first-row = dite (ℕ_discrete row.count 0)
        (λ (is : row.count ≡ 0). is)
        (λ (isnt : row.count ≢ 0).
        let fits = before.fits in
        let inside = hit-key fits (hit-again called got.0 got.1 got.2) in
        let some : 0 < row.count = omega (arith, isnt) in
        let same = (rows-got-again fits.seat.own fits.seat.shape fits.rows (the_lane a.0).lane key inside row stood (λ p other. refl) got.0 (hit-still called got.0 got.1 got.2) some refl).0 in
        let counts = (fits.rows.each (place_of key) row before.there.inside stood).counts key inside refl
        ∙ ap (λ (b : Bool). cond b row.count 0) (eq-eqb (generation_of key) row.generation same) in absurd (omega (arith, counts, none, some)))

  module _ {z : Shape} {key looks : ℕ} {spot : Spot} {a b : Me (Option (Share T)) View} {s : LaneState T} (before : Ready content room z key spot a.0 s)
      (called : Called z (Getting key) looks a b) (got : GetHits z key a b) (none : references_seen z a.0 key ≡ 0) where
    -- the row of its place, as it is read
    pub first-stood : (row : HeldKey T) × (row ≡ slice_index_or s.rows.items spot.start row) × (slice_get s.rows.items (slot_start z (place_of key)) ≡ Some row) × (row.count ≡ 0)
    first-stood =
        let row = ready-row before in
        let stood = rows-stand (place_of key) spot.start row.0 before.fits.rows before.there.inside before.there.start row.1 in
        (row.0, row.1, stood, first-row before called got none row.0 stood)

  -- so no loan is of that place
  pub loan-else : {z : Shape} {v : View} {s : LaneState T} (fits : Fits content room z v s) (key place : ℕ) (row : HeldKey T) → slice_get s.rows.items (slot_start z place) ≡ Some row
      → row.count ≡ 0 → is_place z place ≡ true → 0 < references_seen z v key → slot_start z (place_of key) ≢ slot_start z place
  loan-else {z = z} {s = s} fits key place row stood zero inside some same =
      let here : place_of key ≡ place = start-injective z (place_of key) place (place-inside s key fits some) inside same in
      let has = (row-counts s key fits some row (subst (λ (p : ℕ). slice_get s.rows.items (slot_start z p) ≡ Some row) (sym here) stood)).2 in
      absurd (omega (arith, has, zero))

  pub loans-got : {z : Shape} {v w : View} {s t : LaneState T} {key : ℕ} {bytes : List ℕ} (row written : HeldKey T) → Fits content room z v s → Gained content room z key bytes v w s t
      → is_place z (place_of key) ≡ true → slice_get s.rows.items (slot_start z (place_of key)) ≡ Some row → row.count ≡ 0
      → t.rows.items ≡ slice_set s.rows.items (slot_start z (place_of key)) written → (table table_now : TableId) → table_now ≡ table
      → KeepsLoans content room (lane_of table v s) (lane_of table_now w t)
  loans-got {z = z} {s = s} {key = key} row written fits left inside stood zero rows table table_now same loan lent =
      let did = left.did table table_now same in
      let i : ℕ = slot_start z (place_of key) in
      loan-stays table table_now loan fits left.fits did.same (seen-of did.goes) (subst (λ (n : ℕ). 1 ≤ n) (sym (did.held loan.key)) (more-got (eqb key loan.key) _ lent.held))
      (λ some. else-rows s.rows.items i (slot_start z (place_of loan.key)) written rows (loan-else fits loan.key (place_of key) row stood zero inside some)) lent

  -- the new loan
  pub loan-begun : {z : Shape} {w : View} {t : LaneState T} (loan : LoanOf T) (share : Share T) → Fits content room z w t → loan.share ≡ Some share → 1 ≤ references_seen t.shape w loan.key
      → loan.start ≡ slot_start z (place_of loan.key)
      → ((row : HeldKey T) → slice_get t.rows.items (slot_start z (place_of loan.key)) ≡ Some row → row.share ≡ Some share) → (table : TableId)
      → IsLent content room (lane_of table w t) loan
  loan-begun {z = z} {w = w} {t = t} loan share now share_is held start rows table =
      let key : ℕ = loan.key in
      let some : 0 < references_seen z w key = (let one = subst (λ (y : Shape). 1 ≤ references_seen y w key) now.shape_is held in omega (arith, one)) in
      let stands = standing t key now some in
      let counts = row-counts t key now some stands.0 stands.1 in
      let h = (row-fits t key now some stands.0 stands.1).held counts.2 in
      let here = rows stands.0 stands.1 in
      let both : Some h.0 ≡ Some share = sym h.1 ∙ here in
      let same : h.0 ≡ share = cc both in
      let under : IsHeld content room z w (place_of key) (generation_of key) share
      = subst (λ (x : Share T). IsHeld content room z w (place_of key) (generation_of key) x) same
      (subst (λ (g : ℕ). IsHeld content room z w (place_of key) g h.0) (sym counts.1) h.2) in record {
        held = held;
        start = start ∙ ap (λ (y : Shape). slot_start y (place_of key)) (sym now.shape_is);
        share = share;
        share_is = share_is;
        spot = now.standing (slot_start z (place_of key)) stands.0 share stands.1 here
            ∙ ap (λ (n : ℕ). let spot : CellSpot = record { directory = t.objects.directory; index = n } in spot) (sym start);
        under = subst (λ (y : Shape). IsHeld content room y w (place_of key) (generation_of key) share) (sym now.shape_is) under;
        shows = under.shows key (key-inside t key now some) refl refl;
      }

  -- ---- the share of a loan that is given back

  module _ {z : Shape} {v : View} {s : LaneState T} {key : ℕ} (refers : Refers content room z key v s) where
    abbrev at : ℕ
    at = slot_start z (place_of key)

    pub lent-row : (row : HeldKey T) × (slice_get s.rows.items at ≡ Some row)
    lent-row = standing s key refers.fits refers.some

    -- the row without its share, and then without its reference
    abbrev pub row_spent : HeldKey T
    row_spent = record lent-row.0 { share = None }

    abbrev pub spent : LaneState T
    spent = record s { rows = with_item s.rows at row_spent }

    abbrev pub returned : LaneState T
    returned = record s { rows = with_item (with_item s.rows at row_spent) at (record row_spent { count = row_spent.count - 1 }); references = s.references - 1 }

    pub ends-given : EndsAt at spent returned
    ends-given = (
      λ row stands.
          let same : row_spent ≡ row = stood-here s.rows.items at row_spent row stands in
          ap (λ (r : HeldKey T). slice_set (slice_set s.rows.items at row_spent) at (record r { count = r.count - 1 })) same,
      refl,
    )

    -- another loan is of another place
    pub other-else : (other : ℕ) → other ≢ key → 0 < references_seen z v other → slot_start z (place_of other) ≢ at
    other-else other apart some same =
        let fits = refers.fits in
        let here : place_of other ≡ place_of key = start-injective z (place_of other) (place_of key) (place-inside s other fits some) (place-inside s key fits refers.some) same in
        let stands = lent-row in
        let one = row-counts s key fits refers.some stands.0 stands.1 in
        let two = row-counts s other fits some stands.0 (subst (λ (p : ℕ). slice_get s.rows.items (slot_start z p) ≡ Some stands.0) (sym here) stands.1) in
        apart (same-key z other key two.0 one.0 here (two.1 ∙ sym one.1))

    pub loans-returned : {w : View} {t : LaneState T} → Released content room z key v w s t → t.rows ≡ returned.rows → (table table_now : TableId) → table_now ≡ table
        → ((k : ℕ) → holds (lane_of table_now w t) k ≡ cond (eqb key k) (holds (lane_of table v s) k - 1) (holds (lane_of table v s) k))
        → KeepsOtherLoans content room key (lane_of table v s) (lane_of table_now w t)
    loans-returned {w = w} {t = t} left rows table table_now same less loan apart lent =
        let did = (left.did table table_now same).1 in
        let is : holds (lane_of table_now w t) loan.key ≡ holds (lane_of table v s) loan.key
        = less loan.key ∙ ap (λ (b : Bool). cond b (holds (lane_of table v s) loan.key - 1) (holds (lane_of table v s) loan.key)) (ne_eqb key loan.key (λ one. apart (sym one))) in
        loan-stays table table_now loan refers.fits left.fits did.same (seen-of did.goes) (subst (λ (n : ℕ). 1 ≤ n) (sym is) lent.held)
        (λ some one two stands stands_now.
        let other = other-else loan.key apart some in
        let first = row_spent in
        let last : HeldKey T = record first { count = first.count - 1 } in
        let now = ap (λ (r : Vec (HeldKey T) Global). slice_get r.items (slot_start z (place_of loan.key))) (sym rows) ∙ stands_now in
        same-rows refl (slot_start z (place_of loan.key)) one two stands
        (stood-else s.rows.items at (slot_start z (place_of loan.key)) first two other
        (stood-else (slice_set s.rows.items at first) at (slot_start z (place_of loan.key)) last two other now))) lent

  pub home-given : {z : Shape} {a b : Me (Option (Share T)) View} {s : LaneState T} {key : ℕ} {spots : ℕ → CellSpot} (refers : Refers content room z key a.0 s) (share : Share T) → references_seen z a.0 key ≡ 1
      → Backs content room spots z (place_of key) s.number Untouched a share b → LendsHome z key a b s (spent refers)
  home-given {s = s} {key = key} refers share one backs =
      let stands = lent-row refers in
      let counts = (row-counts s key refers.fits refers.some stands.0 stands.1).3 in
      let single : stands.0.count ≡ 1 = sym counts ∙ one in
      let carries = carries-back backs in record {
        row = stands.0;
        stands = stands.1;
        did = did-carries carries (omega arith);
        pushed = carries.elsewhere.pushed;
        idle = carries.elsewhere.under ∙ refers.fits.seat.idle;
        share = None;
        rows = refl;
        rest = refl;
        last = λ _. moves-here (back-moves backs);
        gone = λ _. refl;
        still = λ several. absurd (omega (arith, several, single));
      }

  -- ---- the release behind it

  module _ {z : Shape} {a b : Me (Option (Share T)) View} {m : LaneState T} {rows : Vec (HeldKey T) Global} {key : ℕ} (s : LaneState T) (refers : Refers content room z key a.0 (record s { rows = rows }))
      (lends : LendsHome z key a b (record s { rows = rows }) m) where
    pub may-leave : MayLeave z b.0 key
    may-leave = inl (
      lends.idle,
      (let some = refers.some in let same = lent-some refers lends in omega (arith, same, some)),
      subst (λ (n : ℕ). status_of (the_lane b.0) (place_of key) n ≢ Untouched → 1 < references_seen z b.0 key) (refers.fits.seat.number_is ∙ sym lends.did.acted.lane) (lent-share refers lends),
    )

    -- the rows as they then would be, and the state that counts one less
    module _ (after : Vec (HeldKey T) Global) (ends_at : EndsAt (slot_start z (place_of key)) m (record s { rows = after; references = s.references - 1 }))
        (e : LaneState T) (less : e ≡ record s { references = s.references - 1 }) where
      abbrev whole_now : LaneState T
      whole_now = record s { rows = after; references = s.references - 1 }

      less-is : record e { rows = after } ≡ whole_now
      less-is = ap (with_rows after) less

      pub less-bare : AreBare s → AreBare e
      less-bare bare = bare-same (ap (λ (x : LaneState T). x.rows) less) (ap (λ (x : LaneState T). x.shape) less) (ap (λ (x : LaneState T). x.objects.directory) less) bare

      pub keeper-given : {directory : Ptr} {l : View} → s.objects.directory ≡ directory → (the_lane l).lane ≡ (the_lane b.0).lane
          → (the_lane l).pushed ≡ (the_lane b.0).pushed → IsKeeper z directory (place_of key) l e
      keeper-given {directory = directory} {l = l} stands lane pushed =
          keeper-rows after (subst (λ (x : LaneState T). IsKeeper z directory (place_of key) l x) (sym less-is)
          (keeper (beside refers lends whole_now ends_at) stands (place-inside (record s { rows = rows }) key refers.fits refers.some) lane pushed))

      module _ {found : ℕ} {l d : Me (Option (Share T)) View} (leaves : Leaves z key b found l) (reclaimed : Option (Reclaimed T)) (ends : Ends z (place_of key) found l d)
          (acts_so : EndsWithActs z (place_of key) [] l.0 d.0 reclaimed) (told : IfSome reclaimed (IsReclaimed content room z (place_of key) e.number d.0)) where
        given-called : Called z (Releasing key) 34 b d
        given-called = release-called lends.idle leaves refl ends

        given-acts : EndsWithActs z (place_of key) (acts.Release s.number key ∷ []) b.0 d.0 reclaimed
        given-acts = subst (λ (n : ℕ). EndsWithActs z (place_of key) (acts.Release n key ∷ []) b.0 d.0 reclaimed) (sym (refers.fits.seat.number_is ∙ sym lends.did.acted.lane))
            (release-acts (place_of key) d.0 reclaimed lends.idle leaves acts_so)

        given-told : IfSome reclaimed (IsReclaimed content room z (place_of key) s.number d.0)
        given-told = subst (λ (n : ℕ). IfSome reclaimed (IsReclaimed content room z (place_of key) n d.0)) (ap (λ (x : LaneState T). x.number) less) told

        pub given-away : (whole : Whole T) → reclaimed ≡ Some (Own whole) → IsAway e.free (place_numbered (place_of key))
        given-away whole is = subst (λ (x : LaneState T). IsAway x.free (place_numbered (place_of key))) (sym less)
            (released-away refers lends whole_now ends_at reclaimed given-called.did given-acts given-told whole is)

        pub given-back : (t : LaneState T) → Keeps (place_of key) reclaimed e t → Released content room z key a.0 d.0 (record s { rows = rows }) (record t { rows = after })
        given-back t kept =
            released refers lends whole_now ends_at reclaimed given-called.did given-acts given-told given-called.idle (record t { rows = after })
            (subst (λ (x : LaneState T). Keeps (place_of key) reclaimed x (record t { rows = after })) less-is (keeps-rows after (place_of key) reclaimed e t kept))
