-- What a publish leaves of a lane: the place of the key was a filling of it, and then isn't any more.
use Rattle.std.proofs.Common.{◌≡◌, ◌≢◌, ℕ, ◌+◌, Bool, true, false, cond, eqb, List, [], ◌∷◌, ◌++◌, length, Some, None, refl, sym, ap, ◌∙◌, subst, arith, append-nil, length-append, eq-eqb, ne_eqb, slice_get, slice_index_or, slice_set}
use Rattle.std.proofs.Math.Seq.{get_or-append_seam}
use Rattle.std.proofs.lemmas.List.{append_cancel_left, set-get_or}
use Rattle.std.proofs.lemmas.Option.{slice_get-get_or}
use mathlib.Core.Logic.{dite}
use native.Mathlib.Decide.{ℕ_discrete}
use Rattle.atomic_table.specs.Table.{Me}
use Rattle.atomic_table.specs.Seated.{TableId}
use Rattle.keybits.specs.declared.shape.Shape.{Shape}
use Rattle.keybits.specs.Keys.{place_of, generation_of, is_key}
use Rattle.keybits.proofs.KeyLemmas.{key_parts}
use Rattle.freelists.specs.Queues.{FreePlaces}
use Rattle.seqpool.specs.declared.act.Act.{Act}
use Rattle.seqpool.specs.declared.act.Act.TheVariants as acts
use Rattle.seqpool.specs.Pool.{Phase, pool_after, references_in}
use Rattle.seqpool.specs.Histories.{At, PublishedAt, acts_of}
use Rattle.seqpool.proofs.Ranks.{same-key, current-key}
use Rattle.poolsteps.specs.declared.view.Status.TheVariants.{Emptied}
use Rattle.poolsteps.specs.Share.{Share}
use Rattle.poolsteps.proofs.shares.HeldContents.{held-current}
use Rattle.keybits.specs.Shapes.{callers, is_place}
use Rattle.poolsteps.specs.declared.grid.Spot.{Spot}
use Rattle.poolsteps.specs.Grids.{IsSpot}
use Rattle.poolsteps.specs.Layout.{slot_start}
use Rattle.poolsteps.specs.declared.view.View.{View}
use Rattle.poolsteps.specs.Views.{the_lane, status_of, known_of}
use Rattle.poolsteps.specs.Told.{IsIdle, MayPublish, references_seen}
use Rattle.poolsteps.specs.Moved.{stored_of}
use Rattle.seatcalls.specs.Called.{Did as DidSo, MadeOne}
use Rattle.shardpool.specs.HeldKeys.{HeldKey}
use Rattle.shardpool.specs.declared.pool.LaneState.{LaneState}
use Rattle.seatcalls.specs.Left.{held_after, has_retired}
use Rattle.shardpool.specs.Tokens.{LaneOf, FillingOf}
use Rattle.shardpool.specs.Rows.{AreStanding}
use Rattle.shardpool.proofs.references.Standings.{standing-set, standing-same}
use Rattle.shardpool.specs.LaneStates.{FitsSeat, FitsTops, FitsStores, FitsRights, IsHeld, FitsRow, FitsRows, Fits}
use Rattle.shardpool.specs.Lanes.{Made, Did}
use Rattle.seatcalls.proofs.parts.OtherShards.{abroad-one}
use Rattle.seatcalls.proofs.parts.Frames.{Passes, OnlyAt}
use Rattle.seatcalls.proofs.parts.Going.{all-acts}
use Rattle.shardpool.proofs.frame.LaneFrames.{passes-did, passes-refs, away-elsewhere, onlyat-publish}
use Rattle.shardpool.proofs.frame.KeptPlaces.{seat-passes, last_pushed-same}
use Rattle.shardpool.proofs.free.Stores.{IsApart, filling-apart, stores-apart}
use Rattle.shardpool.proofs.frame.BlankPlaces.{last-of}
use Rattle.shardpool.proofs.references.Rows.{either-same, held-append, row-none, rows-set}
use Rattle.shardpool.proofs.references.RowChanges.{rows-low, rows-published}
use Rattle.shardpool.proofs.frame.LaneFacts.{lane_of, made-passes, did-lane}
use Rattle.seatcalls.proofs.parts.RetiredPlaces.{retires-else}

-- an act stands behind those before it
at-seam : (xs ys : List Act) (act : Act) → At (xs ++ act ∷ ys) (length xs) act
at-seam xs ys act =
    let all = length-append xs (act ∷ ys) in
    slice_get-get_or (xs ++ act ∷ ys) (length xs) act (omega (arith, all)) ∙ ap Some (get_or-append_seam xs act ys act)

-- what a lane published last stands in the history
published-last : (lane l key : ℕ) (bytes : List ℕ) (with_ref : Bool) (history mine : List Act) → acts_of lane history ≡ mine ++ acts.Publish l key bytes with_ref ∷ []
    → (j : ℕ) × PublishedAt history j key bytes
published-last lane l key bytes with_ref history mine same =
    let act : Act = acts.Publish l key bytes with_ref in
    let last = last-of lane history mine act same in (
      length last.before,
      (l, with_ref, subst (λ (xs : List Act). At xs (length last.before) act) (sym last.is) (at-seam last.before last.behind act)),
    )

-- the place of a filling stands where the filling says
pub made-spot : {T : Type 0} {lane : LaneOf} {z : Shape} {filling : FillingOf T} (spot : Spot) (key : ℕ) → Made lane filling → lane.shape ≡ z → key ≡ filling.key → spot.start ≡ filling.start
    → spot.place ≡ place_of key → IsSpot z spot (place_of key)
made-spot {z = z} {filling = filling} spot key made shape key_is start place = record {
  place_is = place;
  inside = ap (is_place z) (ap place_of key_is) ∙ subst (λ (y : Shape). is_place y (place_of filling.key) ≡ true) shape made.place.inside;
  start = start ∙ (made.start ∙ λ i. slot_start (shape i) (place_of (sym key_is i)));
}

-- a row for none
abbrev pub empty-row : {T : Type 0} → HeldKey T
empty-row = record { generation = 0; count = 0; share = None }

module _ {S T : Type 0} {content : T → List ℕ} {room : T → ℕ} {z : Shape} {steps looks count : ℕ} {made : List Act} {a b : Me S View} (s t : LaneState T) (table : TableId) (filling : FillingOf T)
    (bytes : List ℕ) (with_ref : Bool) (fits : Fits content room z a.0 s) (did : DidSo z (place_of filling.key) made steps looks a b) (idle : IsIdle b.0)
    (acts_so : MadeOne a.0 b.0 (acts.Publish s.number filling.key bytes with_ref)) (was : Made (lane_of table a.0 s) filling)
    (rest : t ≡ record s { rows = t.rows; references = count }) where
  abbrev place : ℕ
  place = place_of filling.key

  abbrev act : Act
  act = acts.Publish s.number filling.key bytes with_ref

  passes : Passes z (λ p. eqb p place) (act ∷ []) a.0 b.0
  passes = subst (λ (xs : List Act). Passes z (λ p. eqb p place) xs a.0 b.0) (append_cancel_left (the_lane a.0).mine made (act ∷ []) (sym did.acted.mine ∙ acts_so.0)) (passes-did did)

  only : OnlyAt place (act ∷ [])
  only = onlyat-publish s.number filling.key bytes with_ref

  off : (p : ℕ) → p ≢ place → eqb p place ≡ false
  off p other = ne_eqb p place other

  -- ---- the key

  may-at : (f : FillingOf T) → Made (lane_of table a.0 s) f → MayPublish z a.0 f.key
  may-at f is = subst (λ (y : Shape). MayPublish y a.0 f.key) fits.shape_is is.may

  key-at : (f : FillingOf T) → Made (lane_of table a.0 s) f → (is_key z f.key ≡ true) × ((pool_after z a.0.seen (place_of f.key)).generation ≡ generation_of f.key)
  key-at f is = current-key z (pool_after z a.0.seen) f.key (may-at f is).current

  pub inside : is_key z filling.key ≡ true
  inside = (key-at filling was).0

  -- another filling is of another place
  apart-from : (f : FillingOf T) → Made (lane_of table a.0 s) f → f.key ≢ filling.key → place_of f.key ≢ place
  apart-from f is other here =
      let one = key-at f is in
      let two = key-at filling was in
      other (same-key z f.key filling.key one.0 two.0 here (sym one.1 ∙ (ap (λ (p : ℕ). (pool_after z a.0.seen p).generation) here ∙ two.1)))

  -- ---- what the lane keeps beside its rows

  apart : IsApart z a.0 s.free s.pages place
  apart = subst (λ (y : Shape). IsApart y a.0 s.free s.pages place) fits.shape_is (filling-apart (lane_of table a.0 s) place was.place)

  seat : FitsSeat z b.0 s.number
  seat = seat-passes fits.seat passes idle (abroad-one z s.number act (λ p within other. refl))
      (retires-else z place (act ∷ []) a.0 b.0 only (λ was.
      let bad : false ≡ true = sym (ap (λ (b : Bool). cond b false (has_retired z place (the_lane a.0).mine false)) (eq-eqb place place refl)) ∙ was in absurd (cc bad)))

  last_pushed : FitsTops z b.0 s.last_pushed.items
  last_pushed = last_pushed-same fits.last_pushed acts_so.1

  stores : FitsStores content room z b.0 s.free s.pages s.objects.items
  stores = stores-apart fits.stores fits.seat.paired fits.seat.own did.chain only passes apart

  directory-now : t.objects.directory ≡ s.objects.directory
  directory-now = ap (λ (x : LaneState T). x.objects.directory) rest

  fits-with : FitsRows content room z b.0 t.rows.items t.references → AreStanding s.objects.directory t.rows.items → Fits content room z b.0 t
  fits-with rows standing = record {
    shape_is = ap (λ (x : LaneState T). x.shape) rest ∙ fits.shape_is;
    placed = ap (λ (x : LaneState T). x.places.shape) rest ∙ fits.placed;
    seat = subst (λ (x : LaneState T). FitsSeat z b.0 x.number) (sym rest) seat;
    last_pushed = subst (λ (x : LaneState T). FitsTops z b.0 x.last_pushed.items) (sym rest) last_pushed;
    rows = rows;
    stores = subst (λ (x : LaneState T). FitsStores content room z b.0 x.free x.pages x.objects.items) (sym rest) stores;
    rights = subst (λ (x : LaneState T). FitsRights z x.number x.pages.opened x.objects) (sym rest) fits.rights;
    standing = standing-same refl directory-now standing;
  }

  -- ---- the row of the place

  -- a place with the lane has no references
  refs-none : (k : ℕ) → place_of k ≡ place → references_seen z a.0 k ≡ 0
  refs-none k here = dite (ℕ_discrete (references_seen z a.0 k) 0)
      (λ (none : references_seen z a.0 k ≡ 0). none)
      (λ (some : references_seen z a.0 k ≢ 0).
      let held = (held-current z (pool_after z a.0.seen) (the_lane a.0).lane k (omega (arith, some))).1 in
      let none : references_in (pool_after z a.0.seen (place_of k)).phase (the_lane a.0).lane ≡ 0
      = ap (λ (p : ℕ). references_in (pool_after z a.0.seen p).phase (the_lane a.0).lane) here
      ∙ ap (λ (f : Phase). references_in f (the_lane a.0).lane) (may-at filling was).with_lane in
      absurd (omega (arith, held, none)))

  abbrev row : HeldKey T
  row = slice_index_or s.rows.items (slot_start z place) empty-row

  stood : slice_get s.rows.items (slot_start z place) ≡ Some row
  stood = slice_get-get_or s.rows.items (slot_start z place) empty-row (rows-low place fits.rows (key_parts z filling.key inside).place)

  row-was : FitsRow content room z a.0 place row
  row-was = fits.rows.each place row (key_parts z filling.key inside).place stood

  -- so its row counts none
  row-zero : row.count ≡ 0
  row-zero = dite (ℕ_discrete row.count 0)
      (λ (none : row.count ≡ 0). none)
      (λ (some : row.count ≢ 0).
      let k = row-was.keyed (omega (arith, some)) in
      let counts = row-was.counts k.0 k.1 k.2 ∙ ap (λ (b : Bool). cond b row.count 0) (eq-eqb (generation_of k.0) row.generation k.3) in
      let none = refs-none k.0 k.2 in absurd (omega (arith, counts, none, some)))

  -- ---- what the call leaves

  -- what it did
  pub published-did : (table_now : TableId) → table_now ≡ table → Did (act ∷ []) (lane_of table a.0 s) (lane_of table_now b.0 t)
  published-did table_now same =
      did-lane z (lane_of table a.0 s) (lane_of table_now b.0 t) fits.shape_is (ap (λ (x : LaneState T). x.shape) rest ∙ fits.shape_is) (ap (λ (x : LaneState T). x.number) rest) same directory-now
      passes fits.seat.own list (ap (λ (x : LaneState T). x.pages) rest) where
        list : t.free ≡ record s.free { own = s.free.own ++ [] }
        list = ap (λ (x : LaneState T). x.free) rest ∙ sym (ap (λ xs. let free : FreePlaces = record s.free { own = xs } in free) (append-nil s.free.own))

  -- its references
  pub published-held : held_after (the_lane b.0).mine 0 ≡ held_after (act ∷ []) (held_after (the_lane a.0).mine 0)
  published-held = ap (λ (xs : List Act). held_after xs 0) acts_so.0 ∙ held-append (the_lane a.0).mine (act ∷ []) 0

  -- and the one to the key, where it was published with a reference
  pub published-one : with_ref ≡ true → references_seen t.shape b.0 filling.key ≡ 1
  published-one referred =
      ap (λ (y : Shape). references_seen y b.0 filling.key) (ap (λ (x : LaneState T). x.shape) rest ∙ fits.shape_is)
      ∙ (passes-refs passes fits.seat.own filling.key
      ∙ (ap (λ (same : Bool). cond same (cond with_ref 1 0) (references_seen z a.0 filling.key)) (eq-eqb filling.key filling.key refl) ∙ ap (λ (r : Bool). cond r 1 0) referred))

  -- its other fillings are still its
  pub published-others : (table_now : TableId) → table_now ≡ table → (other : FillingOf T) → other.key ≢ filling.key → Made (lane_of table a.0 s) other
      → Made (lane_of table_now b.0 t) other
  published-others table_now same other differs is =
      let there = apart-from other is differs in
      made-passes z (lane_of table a.0 s) (lane_of table_now b.0 t) other fits.shape_is (ap (λ (x : LaneState T). x.shape) rest ∙ fits.shape_is) (sym fits.seat.number_is)
      (ap (λ (x : LaneState T). x.number) rest) same directory-now passes fits.seat.paired fits.seat.own idle did.chain (published-did table_now same).list (ap (λ (x : LaneState T). x.pages) rest)
      (off (place_of other.key) there) (away-elsewhere place (place_of other.key) (act ∷ []) only there) is

  -- what it keeps, where the key was published without a reference
  pub published-alone : with_ref ≡ false → t.rows.items ≡ s.rows.items → t.references ≡ s.references → Fits content room z b.0 t
  published-alone alone same_rows same_count =
      let lone : Passes z (λ p. eqb p place) (acts.Publish s.number filling.key bytes false ∷ []) a.0 b.0
      = subst (λ (r : Bool). Passes z (λ p. eqb p place) (acts.Publish s.number filling.key bytes r ∷ []) a.0 b.0) alone passes in
      let none : (k : ℕ) → is_key z k ≡ true → place_of k ≡ place → references_seen z b.0 k ≡ 0
      = λ k inside_k here.
      passes-refs lone fits.seat.own k ∙ (ap (λ (n : ℕ). cond (eqb filling.key k) 0 n) (refs-none k here) ∙ either-same (eqb filling.key k) 0) in
      let fit : FitsRow content room z b.0 place row = subst (λ (n : ℕ). FitsRow content room z b.0 place (record row { count = n })) (sym row-zero) (row-none place row.generation row.share none) in
      let rows = rows-set lone fits.seat.own place row row fits.seat.shape fits.rows (key_parts z filling.key inside).place stood off (onlyat-publish s.number filling.key bytes false) fit refl refl in
      fits-with (subst (λ (n : ℕ). FitsRows content room z b.0 t.rows.items n) (sym same_count)
      (subst (λ (xs : List (HeldKey T)). FitsRows content room z b.0 xs s.references) (set-get_or s.rows.items (slot_start z place) empty-row ∙ sym same_rows) rows))
      (standing-same same_rows refl fits.standing)

  -- and where it was with one, under which this share stands
  pub published-held-with : (share : Share T) → share.spot ≡ record { directory = s.objects.directory; index = slot_start z place } → with_ref ≡ true → share.number ≡ s.number → share.of ≡ callers z → content share.object ≡ bytes
      → status_of (the_lane b.0) place s.number ≡ Emptied → known_of (the_lane b.0) place ≡ stored_of content room share
      → t.rows.items ≡ slice_set s.rows.items (slot_start z place) (record { generation = generation_of filling.key; count = 1; share = Some share })
      → t.references ≡ s.references + 1 → Fits content room z b.0 t
  published-held-with share stands_so referred number of shown emptied known set_so counted =
      let taken : Passes z (λ p. eqb p place) (acts.Publish s.number filling.key bytes true ∷ []) a.0 b.0
      = subst (λ (r : Bool). Passes z (λ p. eqb p place) (acts.Publish s.number filling.key bytes r ∷ []) a.0 b.0) referred passes in
      let lane : s.number ≡ (the_lane b.0).lane = seat.number_is in
      let stands = published-last (the_lane a.0).lane s.number filling.key bytes with_ref b.0.seen (acts_of (the_lane a.0).lane a.0.seen) (all-acts passes.acted fits.seat.own) in
      let held : IsHeld content room z b.0 place (generation_of filling.key) share = record {
        number_is = number ∙ lane;
        of_is = of;
        emptied = subst (λ (n : ℕ). status_of (the_lane b.0) place n ≡ Emptied) lane emptied;
        known = known;
        shows = λ k inside_k here g. (
          stands.0,
          subst (λ (x : ℕ). PublishedAt b.0.seen stands.0 x (content share.object)) (sym (same-key z k filling.key inside_k inside here g))
              (subst (λ (xs : List ℕ). PublishedAt b.0.seen stands.0 filling.key xs) (sym shown) stands.1),
        );
      } in
      let rows = rows-published fits.seat.own fits.seat.shape fits.rows s.number filling.key inside row stood off bytes share taken row-zero held in
      fits-with (subst (λ (n : ℕ). FitsRows content room z b.0 t.rows.items n) (sym counted)
      (subst (λ (xs : List (HeldKey T)). FitsRows content room z b.0 xs (s.references + 1)) (sym set_so) rows))
      (standing-same set_so refl (standing-set s.rows.items (slot_start z place) (record { generation = generation_of filling.key; count = 1; share = Some share }) fits.standing (λ shown is.
      let same : share ≡ shown = cc is in
      subst (λ (x : Share T). x.spot ≡ record { directory = s.objects.directory; index = slot_start z place }) same stands_so)))
