-- What a release leaves of a lane. Where its reference is the last to the key, its share goes back into its slot in front of the call.
use Rattle.std.proofs.Common.{◌≡◌, ◌≢◌, ℕ, ◌+◌, ◌-◌, ◌<◌, ◌≤◌, true, false, eqb, List, [], ◌∷◌, ◌++◌, length, Option, Some, None, IfSome, refl, sym, ap, ◌∙◌, subst, arith, ne_eqb, slice_get, slice_index, slice_index_or, slice_set}
use Rattle.std.proofs.lemmas.List.{set-get_or, set-set}
use Rattle.std.proofs.lemmas.List.Elements.{All-nil, All-cons}
use Rattle.std.proofs.lemmas.Option.{slice_get_within, slice_get-get_or, get_or_from_slice_get}
use mathlib.Core.Logic.{dite}
use native.Mathlib.Decide.{ℕ_discrete}
use Rattle.atomic_table.specs.Table.{Me}
use Rattle.atomic_table.specs.Seated.{TableId}
use Rattle.keybits.specs.declared.shape.Shape.{Shape}
use Rattle.keybits.specs.Shapes.{is_place}
use Rattle.keybits.specs.Places.{shard_of}
use Rattle.keybits.specs.Keys.{place_of, generation_of, is_key}
use Rattle.keybits.proofs.ShapeLemmas.{is_place-parts}
use Rattle.keybits.proofs.KeyLemmas.{key_parts}
use Rattle.freelists.specs.Queues.{IsAway}
use Rattle.freelists.specs.Shards.{place_numbered}
use Rattle.seqpool.specs.declared.act.Act.{Act}
use Rattle.seqpool.specs.declared.act.Act.TheVariants as acts
use Rattle.seqpool.specs.Pool.{with, published, pool_after, retired}
use Rattle.poolsteps.specs.declared.view.Status.TheVariants.{Untouched, Emptied}
use Rattle.poolsteps.specs.Share.{Share}
use Rattle.poolsteps.specs.Spot.{Spot as CellSpot}
use Rattle.poolsteps.specs.Whole.{Whole}
use Rattle.poolsteps.specs.PlaceLaws.{gives_away}
use Rattle.poolsteps.proofs.shares.HeldContents.{held-content-law}
use Rattle.poolsteps.specs.Layout.{slot_start}
use Rattle.poolsteps.specs.declared.view.View.{View}
use Rattle.poolsteps.specs.Grids.{IsSpot}
use Rattle.poolsteps.specs.Views.{the_lane, status_of, pushed_in}
use Rattle.poolsteps.specs.Told.{IsIdle, references_seen}
use Rattle.poolsteps.specs.Moved.{Backs, Peeks}
use Rattle.seatcalls.proofs.parts.Moves.{back-moves, carries-back, moves-here, carries-peek, peek-unmoved}
use Rattle.seatcalls.specs.declared.at.At.{At}
use Rattle.seatcalls.specs.AtPlace.{IsAt}
use Rattle.seatcalls.specs.declared.at.Reclaimed.{Reclaimed}
use Rattle.seatcalls.specs.declared.at.Reclaimed.TheVariants.{Own}
use Rattle.seatcalls.specs.Called.{Did as DidSo, IsReclaimed, EndsWithActs, end_acts}
use Rattle.seatcalls.proofs.parts.Doing.{did-carries, did-most}
use Rattle.seatcalls.proofs.parts.Ending.{did-nothing}
use Rattle.shardpool.specs.HeldKeys.{HeldKey}
use Rattle.shardpool.specs.declared.pool.Places.{Places}
use Rattle.shardpool.specs.declared.pool.LaneState.{LaneState}
use Rattle.seatcalls.specs.Left.{held_after}
use Rattle.shardpool.specs.Tokens.{PoolOf, LaneOf, FillingOf}
use Rattle.shardpool.specs.Stores.{Keeps}
use Rattle.shardpool.specs.Lendings.{LendsHome}
use Rattle.shardpool.specs.Rows.{AreStanding}
use Rattle.shardpool.specs.LaneStates.{FitsSeat, FitsTops, FitsStores, IsHeld, FitsRow, FitsRows, Fits, FitsRights}
use Rattle.shardpool.proofs.references.Standings.{standing-set, standing-same}
use Rattle.shardpool.specs.Lanes.{Made, Did, freed, holds}
use Rattle.seatcalls.proofs.parts.Frames.{Passes, OnlyAt}
use Rattle.shardpool.proofs.frame.LaneFrames.{passes-did, passes-still, passes-more, passes-wider, passes-refs, away-elsewhere, onlyat-none, onlyat-append, onlyat-end, onlyat-release}
use Rattle.shardpool.proofs.frame.KeptPlaces.{seat-passes, last_pushed-same}
use Rattle.shardpool.proofs.free.Stores.{elsewhere-apart, stores-apart, stands-here}
use Rattle.shardpool.proofs.references.Rows.{row-of-refs, held-passes}
use Rattle.shardpool.proofs.references.RowChanges.{key-now, end-refs, end-held, rows-low, rows-count-le, rows-released}
use Rattle.shardpool.proofs.calls.Ends.{FitsBeside, Ended, ended-beside, beside-away, touched_by, untouched-held}
use Rattle.shardpool.proofs.calls.Publishes.{empty-row}
use Rattle.shardpool.proofs.frame.SeenHistories.{same-shape}
use Rattle.shardpool.proofs.frame.LaneFacts.{lane_of, made-passes, did-lane}
use Rattle.seatcalls.proofs.parts.RetiredPlaces.{Retires, retires-else, retired-phase}

-- a lane that did nothing
seat-nothing : {S : Type 0} {z : Shape} {a : Me S View} {n : ℕ} (place looks : ℕ) → FitsSeat z a.0 n → DidSo z place [] 0 looks a a
seat-nothing place looks seat = did-most (did-nothing seat.one (seat.legal, seat.own, seat.quiet, seat.owners)) (omega arith)

-- the places of the touched slots
touched-else : {T : Type 0} (place : ℕ) (reclaimed : Option (Reclaimed T)) (p : ℕ) → p ≢ place → touched_by place reclaimed p ≡ false
touched-else place None p other = refl
touched-else place (Some reclaimed) p other = ne_eqb p place other

touched-all : {T : Type 0} (place : ℕ) (reclaimed : Option (Reclaimed T)) (p : ℕ) → touched_by place reclaimed p ≡ true → eqb p place ≡ true
touched-all place None p is = absurd (cc is)
touched-all place (Some reclaimed) p is = is

-- ---- the row of a key to which a lane refers

module _ {T : Type 0} {content : T → List ℕ} {room : T → ℕ} {z : Shape} {v : View} (s : LaneState T) (key : ℕ) (fits : Fits content room z v s)
    (some : 0 < references_seen z v key) where
  pub key-inside : is_key z key ≡ true
  key-inside = (key-now z (pool_after z v.seen) (the_lane v).lane key some).0

  pub place-inside : is_place z (place_of key) ≡ true
  place-inside = (key_parts z key key-inside).place

  pub row-low : slot_start z (place_of key) < length s.rows.items
  row-low = rows-low (place_of key) fits.rows place-inside

  pub standing : (row : HeldKey T) × (slice_get s.rows.items (slot_start z (place_of key)) ≡ Some row)
  standing = (slice_index_or s.rows.items (slot_start z (place_of key)) empty-row, slice_get-get_or s.rows.items (slot_start z (place_of key)) empty-row row-low)

  module _ (row : HeldKey T) (stands : slice_get s.rows.items (slot_start z (place_of key)) ≡ Some row) where
    pub row-fits : FitsRow content room z v (place_of key) row
    row-fits = fits.rows.each (place_of key) row place-inside stands

    -- it counts the lane's references to the key
    pub row-counts : (is_key z key ≡ true) × (generation_of key ≡ row.generation) × (0 < row.count) × (references_seen z v key ≡ row.count)
    row-counts = row-of-refs key row-fits some

    pub row-most : row.count ≤ s.references
    row-most = rows-count-le (slot_start z (place_of key)) row fits.rows stands

-- ---- the share of the last reference is put back

-- what was taken out of the row at this index: its share, where it counts one
pub record LendsBack {T : Type 0} (i : ℕ) (s m : LaneState T) (result : Option (Share T)) : Type 0 where
  pub one : (row : HeldKey T) → slice_get s.rows.items i ≡ Some row → row.count ≡ 1 → (result ≡ row.share) × (m.rows.items ≡ slice_set s.rows.items i (record row { share = None }))
  pub more : (row : HeldKey T) → slice_get s.rows.items i ≡ Some row → row.count ≢ 1 → (result ≡ None) × (m.rows.items ≡ s.rows.items)
  pub rest : m ≡ record s { rows = m.rows }

module _ {T : Type 0} {content : T → List ℕ} {room : T → ℕ} {z : Shape} (s m : LaneState T) (key : ℕ) (result : Option (Share T)) where
  -- a share is taken out of the row of the last reference alone
  lent-single : {v : View} (fits : Fits content room z v s) (some : 0 < references_seen z v key) → LendsBack (slot_start z (place_of key)) s m result
      → (share : Share T) → result ≡ Some share → (standing s key fits some).0.count ≡ 1
  lent-single fits some lends share is =
      let stands = standing s key fits some in
      dite (ℕ_discrete stands.0.count 1)
      (λ (single : stands.0.count ≡ 1). single)
      (λ (several : stands.0.count ≢ 1).
      let e : Some share ≡ None = sym is ∙ (lends.more stands.0 stands.1 several).0 in absurd (cc e))

  -- and it is the one under that reference
  pub lent-held : {v : View} (fits : Fits content room z v s) (some : 0 < references_seen z v key) → LendsBack (slot_start z (place_of key)) s m result
      → (share : Share T) → result ≡ Some share → IsHeld content room z v (place_of key) (generation_of key) share
  lent-held {v = v} fits some lends share is =
      let stands = standing s key fits some in
      let counts = row-counts s key fits some stands.0 stands.1 in
      let h = (row-fits s key fits some stands.0 stands.1).held counts.2 in
      let e : Some h.0 ≡ Some share = sym h.1 ∙ (sym (lends.one stands.0 stands.1 (lent-single fits some lends share is)).0 ∙ is) in
      let same : h.0 ≡ share = cc e in
      subst (λ (x : Share T). IsHeld content room z v (place_of key) (generation_of key) x) same
      (subst (λ (g : ℕ). IsHeld content room z v (place_of key) g h.0) (sym counts.1) h.2)

  -- which stands where its row does
  pub lent-stands : {v : View} (fits : Fits content room z v s) (some : 0 < references_seen z v key) → LendsBack (slot_start z (place_of key)) s m result
      → (share : Share T) → result ≡ Some share → share.spot ≡ record { directory = s.objects.directory; index = slot_start z (place_of key) }
  lent-stands fits some lends share is =
      let stands = standing s key fits some in
      fits.standing (slot_start z (place_of key)) stands.0 share stands.1 (sym (lends.one stands.0 stands.1 (lent-single fits some lends share is)).0 ∙ is)

  -- the lane emptied the slot
  pub lent-emptied : {v : View} (fits : Fits content room z v s) (some : 0 < references_seen z v key) → status_of (the_lane v) (place_of key) s.number ≡ Emptied
  lent-emptied {v = v} fits some =
      let stands = standing s key fits some in
      let h = (row-fits s key fits some stands.0 stands.1).held (row-counts s key fits some stands.0 stands.1).2 in
      ap (λ (n : ℕ). status_of (the_lane v) (place_of key) n) fits.seat.number_is ∙ h.2.emptied

  module _ {a : Me (Option (Share T)) View} (fits : Fits content room z a.0 s) (some : 0 < references_seen z a.0 key) (lends : LendsBack (slot_start z (place_of key)) s m result) where
    pub lent-back : {spots : ℕ → CellSpot} {b : Me (Option (Share T)) View} (share : Share T) → result ≡ Some share → Backs content room spots z (place_of key) s.number Untouched a share b → LendsHome z key a b s m
    lent-back share is backs =
        let stands = standing s key fits some in
        let single = lent-single fits some lends share is in
        let carries = carries-back backs in record {
          row = stands.0;
          stands = stands.1;
          did = did-carries carries (omega arith);
          pushed = carries.elsewhere.pushed;
          idle = carries.elsewhere.under ∙ fits.seat.idle;
          share = None;
          rows = (lends.one stands.0 stands.1 single).1;
          rest = lends.rest;
          last = λ _. moves-here (back-moves backs);
          gone = λ _. refl;
          still = λ several. absurd (omega (arith, several, single));
        }

    pub lent-more : {spots : ℕ → CellSpot} {b : Me (Option (Share T)) View} → Peeks content room spots z (place_of key) s.number a b → ((share : Share T) → result ≢ Some share) → LendsHome z key a b s m
    lent-more peeks isnt =
        let carries = carries-peek peeks in
        let stands = standing s key fits some in
        let row : HeldKey T = stands.0 in
        dite (ℕ_discrete row.count 1)
        (λ (single : row.count ≡ 1).
        let h = (row-fits s key fits some row stands.1).held (row-counts s key fits some row stands.1).2 in
        absurd (isnt h.0 ((lends.one row stands.1 single).0 ∙ h.1)))
        (λ (several : row.count ≢ 1). record {
          row = row;
          stands = stands.1;
          did = did-carries carries (omega arith);
          pushed = carries.elsewhere.pushed;
          idle = carries.elsewhere.under ∙ fits.seat.idle;
          share = row.share;
          rows = (lends.more row stands.1 several).1
              ∙ (sym (set-get_or s.rows.items (slot_start z (place_of key)) row)
              ∙ ap (λ (x : HeldKey T). slice_set s.rows.items (slot_start z (place_of key)) x) (get_or_from_slice_get s.rows.items (slot_start z (place_of key)) row row stands.1));
          rest = lends.rest;
          last = λ single. absurd (several single);
          gone = λ single. absurd (several single);
          still = λ _. (peek-unmoved (lent-emptied fits some) peeks, refl);
        })

-- ---- what stands in front of the release

-- the row at this index has one reference less
abbrev pub EndsAt : {T : Type 0} → ℕ → LaneState T → LaneState T → Type 0
EndsAt {T = T} i m e = ((row : HeldKey T) → slice_get m.rows.items i ≡ Some row → e.rows.items ≡ slice_set m.rows.items i (record row { count = row.count - 1 }))
    × (e ≡ record m { rows = e.rows; references = m.references - 1 })

-- what a release of a key leaves of a lane: it fits as before, has one reference less, and its fillings are still its
pub record Released {T : Type 0} (content : T → List ℕ) (room : T → ℕ) (z : Shape) (key : ℕ) (v w : View) (s t : LaneState T) : Type 0 where
  pub fits : Fits content room z w t
  pub did : (table table_now : TableId) → table_now ≡ table → (rest : List Act) × Did (acts.Release s.number key ∷ rest) (lane_of table v s) (lane_of table_now w t)
  pub refs : held_after (the_lane w).mine 0 + 1 ≡ held_after (the_lane v).mine 0
  pub fillings : (table table_now : TableId) → table_now ≡ table → (filling : FillingOf T) → Made (lane_of table v s) filling → Made (lane_of table_now w t) filling

-- a lane refers to a key, and what it keeps fits
pub record Refers {T : Type 0} (content : T → List ℕ) (room : T → ℕ) (z : Shape) (key : ℕ) (v : View) (s : LaneState T) : Type 0 where
  pub fits : Fits content room z v s
  pub some : 0 < references_seen z v key

-- so does a lane of a pool that holds a key
pub refers-held : {T : Type 0} {content : T → List ℕ} {room : T → ℕ} {view lane : LaneOf} {grid pool : PoolOf} {s : LaneState T} {key k : ℕ} → view ≡ lane → lane.shape ≡ pool.shape
    → grid ≡ pool → Fits content room view.shape view.book s → 1 ≤ holds lane k → key ≡ k → Refers content room grid.shape key view.book s
refers-held {content = content} {room = room} {view = view} {lane = lane} {grid = grid} {s = s} {key = key} {k = k} seen owned of_pool fits held same =
    let shape : view.shape ≡ grid.shape = sym (same-shape seen owned of_pool) in
    let here : 1 ≤ references_seen view.shape view.book k = subst (λ (l : LaneOf). 1 ≤ holds l k) (sym seen) held in
    let of_key : 1 ≤ references_seen view.shape view.book key = subst (λ (n : ℕ). 1 ≤ references_seen view.shape view.book n) (sym same) here in
    let of_shape : 1 ≤ references_seen grid.shape view.book key = subst (λ (z : Shape). 1 ≤ references_seen z view.book key) shape of_key in
    record { fits = subst (λ (z : Shape). Fits content room z view.book s) shape fits; some = omega (arith, of_shape) }

module _ {T : Type 0} {content : T → List ℕ} {room : T → ℕ} {z : Shape} {a b : Me (Option (Share T)) View} {s m : LaneState T} {key : ℕ} (refers : Refers content room z key a.0 s)
    (lent : LendsHome z key a b s m) where
  fits : Fits content room z a.0 s
  fits = refers.fits

  some : 0 < references_seen z a.0 key
  some = refers.some

  abbrev place : ℕ
  place = place_of key

  abbrev at : ℕ
  at = slot_start z place

  low : at < length s.rows.items
  low = row-low s key fits some

  of : (is_key z key ≡ true) × (generation_of key ≡ lent.row.generation) × (0 < lent.row.count) × (references_seen z a.0 key ≡ lent.row.count)
  of = row-counts s key fits some lent.row lent.stands

  fit : FitsRow content room z a.0 place lent.row
  fit = row-fits s key fits some lent.row lent.stands

  most : lent.row.count ≤ s.references
  most = row-most s key fits some lent.row lent.stands

  -- the row as it then stands
  abbrev row-lent : HeldKey T
  row-lent = record lent.row { share = lent.share }

  pub lent-passes : Passes z (λ p. eqb p place) [] a.0 b.0
  lent-passes = passes-did lent.did

  -- the reference is still the lane's
  pub lent-some : references_seen z b.0 key ≡ references_seen z a.0 key
  lent-some = passes-refs lent-passes fits.seat.own key

  -- its slot is left alone, or it has another
  pub lent-share : status_of (the_lane b.0) place s.number ≢ Untouched → 1 < references_seen z b.0 key
  lent-share moved = dite (ℕ_discrete lent.row.count 1)
      (λ (single : lent.row.count ≡ 1). absurd (moved (lent.last single)))
      (λ (several : lent.row.count ≢ 1). let same = lent-some in let is = of.3 in let any = of.2 in omega (arith, same, is, any, several))

  -- and the word that the lane pushed last there is the same
  lent-top : slice_index s.last_pushed.items (shard_of place) ≡ pushed_in (the_lane b.0).pushed (shard_of place)
  lent-top =
      fits.last_pushed.each (shard_of place) (is_place-parts z place (place-inside s key fits some)).0 ∙ ap (λ (pushed : List (ℕ × ℕ)). pushed_in pushed (shard_of place)) (sym lent.pushed)

  last_pushed-lent : m.last_pushed.items ≡ s.last_pushed.items
  last_pushed-lent = ap (λ (x : LaneState T). x.last_pushed.items) lent.rest

  -- so the call acts at the key's place
  pub lent-at : (acting : At) → IsSpot z acting.spot place → acting.lane ≡ s.number → acting.tops.now.items ≡ m.last_pushed.items → IsAt z b.0 place acting
  lent-at acting spot lane tops = record {
    spot = spot;
    lane = lane ∙ (fits.seat.number_is ∙ sym lent.did.acted.lane);
    below = subst (λ (n : ℕ). n < z.lanes) (sym lane) fits.seat.below;
    shard = rw (tops ∙ last_pushed-lent, fits.last_pushed.wide) (is_place-parts z place (place-inside s key fits some)).0;
    top = ap (λ (words : List ℕ). slice_index words (shard_of place)) (tops ∙ last_pushed-lent) ∙ lent-top;
  }

  stood-now : slice_get m.rows.items at ≡ Some row-lent
  stood-now = ap (λ (xs : List (HeldKey T)). slice_get xs at) lent.rows ∙ stands-here s.rows.items at row-lent low

  pub end-low : at < length m.rows.items
  end-low = slice_get_within m.rows.items at row-lent stood-now

  pub end-more : (r : HeldKey T) → slice_get m.rows.items at ≡ Some r → 0 < r.count
  end-more r is =
      let e : Some row-lent ≡ Some r = sym stood-now ∙ is in
      let same : row-lent ≡ r = cc e in subst (λ (x : HeldKey T). 0 < x.count) same of.2

  pub end-within : 0 < m.references
  end-within =
      let below = most in
      let any = of.2 in
      let same = ap (λ (x : LaneState T). x.references) lent.rest in omega (arith, below, any, same)

  -- a key to which the lane refers is published, so its place is not with the lane
  away : (lane : ℕ) → (pool_after z a.0.seen place).phase ≢ with lane
  away lane is =
      let told = held-content-law z a.0.seen (the_lane a.0).lane key fits.seat.legal some in
      let bad : published told.0 told.1 told.2 ≡ with lane = sym told.3 ∙ is in cc bad

  -- nor is it one that the lane retired
  unretired : Retires z (λ p. eqb p place) [] a.0 b.0
  unretired = retires-else z place [] a.0 b.0 (onlyat-none place) (λ was.
      let told = held-content-law z a.0.seen (the_lane a.0).lane key fits.seat.legal some in
      let bad : published told.0 told.1 told.2 ≡ retired
      = sym told.3 ∙ retired-phase z a.0.seen (the_lane a.0).mine (the_lane a.0).lane place fits.seat.legal fits.seat.own was in absurd (cc bad))

  -- ---- the row has one reference less

  module _ (e : LaneState T) (ends : EndsAt at m e) where
    -- the row as it stands after the call
    abbrev row-now : HeldKey T
    row-now = record lent.row { count = lent.row.count - 1; share = lent.share }

    rows-so : e.rows.items ≡ slice_set s.rows.items at row-now
    rows-so = ends.0 row-lent stood-now ∙ (ap (λ (xs : List (HeldKey T)). slice_set xs at row-now) lent.rows ∙ set-set s.rows.items at row-lent row-now)

    rest-so : e ≡ record s { rows = e.rows; references = s.references - 1 }
    rest-so = ends.1 ∙ ap (λ (x : LaneState T). record x { rows = e.rows; references = x.references - 1 }) lent.rest

    pub beside : FitsBeside content room z b.0 e
    beside =
        let seat : FitsSeat z b.0 s.number = seat-passes fits.seat lent-passes lent.idle (λ p within other. refl) unretired in
        let last_pushed : FitsTops z b.0 s.last_pushed.items = last_pushed-same fits.last_pushed lent.pushed in
        let stores : FitsStores content room z b.0 s.free s.pages s.objects.items
        = stores-apart fits.stores fits.seat.paired fits.seat.own lent.did.chain (onlyat-none place) lent-passes (elsewhere-apart fits.stores place (away (the_lane a.0).lane)) in
        record {
          shape_is = ap (λ (x : LaneState T). x.shape) rest-so ∙ fits.shape_is;
          placed = ap (λ (x : LaneState T). x.places.shape) rest-so ∙ fits.placed;
          seat = subst (λ (x : LaneState T). FitsSeat z b.0 x.number) (sym rest-so) seat;
          last_pushed = subst (λ (x : LaneState T). FitsTops z b.0 x.last_pushed.items) (sym rest-so) last_pushed;
          stores = subst (λ (x : LaneState T). FitsStores content room z b.0 x.free x.pages x.objects.items) (sym rest-so) stores;
          rights = subst (λ (x : LaneState T). FitsRights z x.number x.pages.opened x.objects) (sym rest-so) fits.rights;
        }

    -- ---- the release

    module _ {steps looks : ℕ} {made : List Act} {d : Me (Option (Share T)) View} (reclaimed : Option (Reclaimed T)) (did : DidSo z place made steps looks b d)
        (acts_so : EndsWithActs z place (acts.Release s.number key ∷ []) b.0 d.0 reclaimed) (told : IfSome reclaimed (IsReclaimed content room z place s.number d.0)) where
      abbrev behind : List Act
      behind = end_acts z (the_lane b.0).lane place acts_so.0.0 reclaimed

      abbrev all : List Act
      all = acts.Release s.number key ∷ behind

      number-so : e.number ≡ s.number
      number-so = ap (λ (x : LaneState T). x.number) rest-so

      told-so : IfSome reclaimed (IsReclaimed content room z place e.number d.0)
      told-so = subst (λ (n : ℕ). IfSome reclaimed (IsReclaimed content room z place n d.0)) (sym number-so) told

      -- an object that is answered may be kept
      pub released-away : (whole : Whole T) → reclaimed ≡ Some (Own whole) → IsAway e.free (place_numbered place)
      released-away = beside-away beside d.0 place reclaimed (place-inside s key fits some) acts_so.2 told-so

      module _ (idle : IsIdle d.0) (t : LaneState T) (kept : Keeps place reclaimed e t) where
        left : Ended content room z place reclaimed all b.0 d.0 e t
        left = ended-beside (acts.Release s.number key ∷ []) reclaimed beside did idle acts_so
            told-so (place-inside s key fits some) (onlyat-release s.number key)
            (All-cons (λ act. gives_away act place ≡ false) (acts.Release s.number key) [] refl (All-nil (λ act. gives_away act place ≡ false)))
            refl (λ p within other. refl) (λ p was. refl) kept

        through : Passes z (λ p. eqb p place) all a.0 d.0
        through = passes-more lent-passes (passes-wider (touched-all place reclaimed) left.passes)

        -- ---- the rows

        behind-at : OnlyAt place behind
        behind-at = onlyat-end z (the_lane b.0).lane place acts_so.0.0 reclaimed fits.seat.shape (place-inside s key fits some)

        rows-last : lent.row.count ≡ 1 → FitsRows content room z d.0 (slice_set s.rows.items at row-now) (s.references - 1)
        rows-last single =
            rows-released fits.seat.own fits.seat.shape fits.rows s.number key of.0 lent.row lent.stands (λ p other. ne_eqb p place other) behind lent.share through behind-at
            (end-refs z (the_lane b.0).lane place acts_so.0.0 reclaimed) (end-held z (the_lane b.0).lane place acts_so.0.0 reclaimed) some
            (λ several. absurd (omega (arith, several, single)))

        rows-more : 1 < lent.row.count → FitsRows content room z d.0 (slice_set s.rows.items at row-now) (s.references - 1)
        rows-more several =
            let still = lent.still several in
            let none : Passes z (λ p. false) [] a.0 b.0 = passes-still lent.did still.0 in
            let h = fit.held of.2 in
            let held : IsHeld content room z b.0 place lent.row.generation h.0 = held-passes none fits.seat.own h.2 refl in
            let seat : FitsSeat z b.0 (the_lane b.0).lane = subst (λ (n : ℕ). FitsSeat z b.0 n) beside.seat.number_is beside.seat in
            let off : touched_by place reclaimed place ≡ false = untouched-held seat held d.0 place reclaimed acts_so.2 in
            let wider : Passes z (touched_by place reclaimed) [] a.0 b.0 = passes-wider (λ p is. absurd (cc is)) none in
            rows-released fits.seat.own fits.seat.shape fits.rows s.number key of.0 lent.row lent.stands (touched-else place reclaimed) behind lent.share (passes-more wider left.passes) behind-at
            (end-refs z (the_lane b.0).lane place acts_so.0.0 reclaimed) (end-held z (the_lane b.0).lane place acts_so.0.0 reclaimed) some
            (λ _. (off, still.1))

        rows-now : FitsRows content room z d.0 t.rows.items t.references
        rows-now =
            let rows = dite (ℕ_discrete lent.row.count 1) (λ (single : lent.row.count ≡ 1). rows-last single)
            (λ (several : lent.row.count ≢ 1). let any = of.2 in rows-more (omega (arith, several, any))) in
            subst (λ (n : ℕ). FitsRows content room z d.0 t.rows.items n) (sym (left.same.1 ∙ ap (λ (x : LaneState T). x.references) rest-so))
            (subst (λ (xs : List (HeldKey T)). FitsRows content room z d.0 xs (s.references - 1)) (sym (ap (λ rows_so. rows_so.items) left.same.0 ∙ rows-so)) rows)

        -- ---- what the call leaves

        shape-now : t.shape ≡ z
        shape-now = left.same.2 ∙ beside.shape_is

        number-now : t.number ≡ s.number
        number-now = left.same.3 ∙ number-so

        list-now : t.free ≡ record s.free { own = s.free.own ++ freed z s.number all }
        list-now = left.list ∙ ap (λ (x : LaneState T). record x.free { own = x.free.own ++ freed z x.number all }) rest-so

        pages-now : t.pages ≡ s.pages
        pages-now = left.same.4 ∙ ap (λ (x : LaneState T). x.pages) rest-so

        directory-now : t.objects.directory ≡ s.objects.directory
        directory-now = left.same.6 ∙ ap (λ (x : LaneState T). x.objects.directory) rest-so

        -- what is left of the row's share is the one that was under the other references
        standing-now : AreStanding t.objects.directory t.rows.items
        standing-now = standing-same (ap (λ rows_so. rows_so.items) left.same.0 ∙ rows-so) directory-now
            (standing-set s.rows.items at row-now fits.standing (λ shown is. dite (ℕ_discrete lent.row.count 1)
            (λ (single : lent.row.count ≡ 1). let bad : None ≡ Some shown = sym (lent.gone single) ∙ is in absurd (cc bad))
            (λ (several : lent.row.count ≢ 1). let any = of.2 in
            fits.standing at lent.row shown lent.stands (sym (lent.still (omega (arith, several, any))).1 ∙ is))))

        -- its fillings are still its
        released-fillings : (table table_now : TableId) → table_now ≡ table → (filling : FillingOf T) → Made (lane_of table a.0 s) filling → Made (lane_of table_now d.0 t) filling
        released-fillings table table_now same filling was =
            let other : place_of filling.key ≢ place
            = λ there. away (the_lane a.0).lane (subst (λ (p : ℕ). (pool_after z a.0.seen p).phase ≡ with (the_lane a.0).lane) there
            (subst (λ (y : Shape). (pool_after y a.0.seen (place_of filling.key)).phase ≡ with (the_lane a.0).lane) fits.shape_is was.may.with_lane)) in
            made-passes z (lane_of table a.0 s) (lane_of table_now d.0 t) filling fits.shape_is shape-now (sym fits.seat.number_is) number-now same directory-now through fits.seat.paired fits.seat.own
            idle (did.chain ∙ lent.did.chain) list-now pages-now (ne_eqb (place_of filling.key) place other)
            (away-elsewhere place (place_of filling.key) all (onlyat-append place (acts.Release s.number key ∷ []) behind (onlyat-release s.number key) behind-at) other) was

        pub released : Released content room z key a.0 d.0 s t
        released = record {
          fits = record { shape_is = shape-now; placed = ap (λ (x : Places). x.shape) left.same.5 ∙ beside.placed; seat = left.seat; last_pushed = left.last_pushed; rows = rows-now; stores = left.stores; rights = left.rights; standing = standing-now };
          did = λ table table_now same. (
            behind,
            did-lane z (lane_of table a.0 s) (lane_of table_now d.0 t) fits.shape_is shape-now number-now same directory-now through fits.seat.own list-now pages-now,
          );
          refs =
              let below = most in
              let any = of.2 in
              let now = rows-now.by_acts in
              let was = fits.rows.by_acts in
              let same = left.same.1 in
              let less = ap (λ (x : LaneState T). x.references) rest-so in omega (arith, below, any, now, was, same, less);
          fillings = released-fillings;
        }
