-- What a get leaves of a lane, where it hits and where it misses.
use Rattle.std.proofs.Common.{◌≡◌, ◌≢◌, ⊎_elim, ℕ, ◌+◌, ◌<◌, ◌≤◌, Bool, true, false, cond, eqb, List, [], ◌∷◌, ◌++◌, length, Option, Some, None, IfSome, refl, sym, ap, ◌∙◌, subst, arith, append-nil, eq-eqb, ne_eqb, slice_get, slice_set}
use Rattle.std.proofs.lemmas.List.{append_cancel_left}
use Rattle.std.proofs.lemmas.List.Elements.{All-nil, All-cons}
use Rattle.std.proofs.lemmas.Option.{slice_get_cases}
use Rattle.std.specs.List.{All}
use mathlib.Core.Logic.{dite}
use native.Mathlib.Decide.{ℕ_discrete}
use Rattle.atomic_table.specs.Table.{Me}
use Rattle.atomic_table.specs.Seated.{TableId}
use Rattle.keybits.specs.declared.shape.Shape.{Shape}
use Rattle.keybits.specs.Shapes.{is_place}
use Rattle.keybits.specs.Keys.{place_of, is_key, generation_of}
use Rattle.seqpool.specs.declared.act.Act.{Act}
use Rattle.seqpool.specs.declared.act.Act.TheVariants as acts
use Rattle.seqpool.specs.Pool.{with, published, pool_after, retired}
use Rattle.poolsteps.specs.declared.view.Status.TheVariants.{Untouched, Emptied}
use Rattle.poolsteps.specs.Shares.{room_of}
use Rattle.poolsteps.specs.Share.{Share}
use Rattle.poolsteps.specs.Spot.{Spot as CellSpot}
use Rattle.steplaws.specs.Calls.{Call, key_in}
use Rattle.steplaws.specs.Calls.Call.{Getting}
use Rattle.poolsteps.specs.PlaceLaws.{gives_away}
use Rattle.poolsteps.proofs.shares.HeldContents.{held-content-law}
use Rattle.poolsteps.specs.Layout.{slot_start}
use Rattle.poolsteps.specs.declared.view.View.{View}
use Rattle.poolsteps.specs.Views.{the_lane, status_of}
use Rattle.poolsteps.specs.Told.{IsIdle, MayTouch, references_seen}
use Rattle.poolsteps.specs.Moved.{Outs, Peeks}
use Rattle.poolsteps.specs.ViewLaws.{HeldLaw}
use Rattle.seatcalls.specs.Carried.{Carries}
use Rattle.seatcalls.proofs.parts.Moves.{out-moves, carries-out, moves-here, moves-known, carries-peek, peek-unmoved}
use Rattle.seatcalls.specs.declared.at.Reclaimed.{Reclaimed}
use Rattle.seatcalls.specs.Called.{Did as DidSo, Called, MadeOne, IsUnmoved, GetMisses, IsReclaimed, EndsWithActs}
use Rattle.seatcalls.proofs.parts.Doing.{did-more, did-carries}
use Rattle.shardpool.specs.HeldKeys.{HeldKey}
use Rattle.shardpool.specs.declared.pool.LaneState.{LaneState}
use Rattle.seatcalls.specs.Left.{held_after, has_retired}
use Rattle.shardpool.specs.Tokens.{FillingOf}
use Rattle.shardpool.specs.Rows.{AreStanding}
use Rattle.shardpool.specs.LaneStates.{FitsRow, FitsRows, Fits}
use Rattle.shardpool.specs.Lanes.{Made, Did}
use Rattle.seatcalls.proofs.parts.OtherShards.{abroad-one}
use Rattle.seatcalls.proofs.parts.Frames.{Passes}
use Rattle.shardpool.proofs.frame.LaneFrames.{passes-still, passes-carries, passes-more, passes-wider, onlyat-get}
use Rattle.shardpool.proofs.frame.KeptPlaces.{seat-passes, last_pushed-same, still-with}
use Rattle.shardpool.proofs.free.Stores.{stores-apart, elsewhere-apart}
use Rattle.shardpool.proofs.references.Rows.{row-of-refs, held-append, held-made}
use Rattle.shardpool.proofs.references.RowChanges.{key-now, refs-got, rows-low, rows-count-le, rows-got-first, rows-got-again}
use Rattle.shardpool.proofs.frame.LaneFacts.{lane_of, made-passes, did-lane}
use Rattle.seatcalls.proofs.parts.RetiredPlaces.{Retires, retired-append, retires-else, retired-phase}

-- ---- one call

-- a call with moves of its place behind it is one call
pub called-then : {S : Type 0} {z : Shape} {call : Call} {n m : ℕ} {a b c : Me S View} → Called z call n a b → Carries z (place_of (key_in call)) m b c → Called z call (n + m) a c
called-then {z = z} {call = call} {n = n} {m = m} {a = a} {c = c} called carries =
    let place : ℕ = place_of (key_in call) in
    let more = did-more called.did (did-carries {looks = m} carries (omega arith)) in
    let steps : length called.steps + 0 ≡ length called.steps = omega arith in record {
      steps = called.steps;
      made = called.made;
      are = called.are;
      all = called.all;
      make = called.make;
      did = subst (λ (xs : List Act). DidSo z place xs (length called.steps) (n + m) a c) (append-nil called.made)
          (subst (λ (k : ℕ). DidSo z place (called.made ++ []) k (n + m) a c) steps more);
      few = called.few;
      idle = carries.elsewhere.under ∙ called.idle;
    }

-- ---- a hit

-- between two views the lane got a reference to a key: it made that act alone, and touched at most the slots of its place
pub record IsHit (z : Shape) (key : ℕ) (bytes : List ℕ) (v w : View) : Type 0 where
  pub passes : Passes z (λ p. eqb p (place_of key)) (acts.Get (the_lane v).lane key (Some bytes) ∷ []) v w
  pub idle : IsIdle w
  pub pushed : (the_lane w).pushed ≡ (the_lane v).pushed
  pub chain : (the_lane w).chain ≡ (the_lane v).chain

module _ {S : Type 0} {z : Shape} {key n : ℕ} {a b : Me S View} (called : Called z (Getting key) n a b) (bytes : List ℕ)
    (one : MadeOne a.0 b.0 (acts.Get (the_lane a.0).lane key (Some bytes))) (unmoved : IsUnmoved (place_of key) (the_lane a.0) (the_lane b.0)) where
  -- the call touched no slot
  pub hit-still : Passes z (λ p. false) (acts.Get (the_lane a.0).lane key (Some bytes) ∷ []) a.0 b.0
  hit-still =
      let get : List Act = acts.Get (the_lane a.0).lane key (Some bytes) ∷ [] in
      let same : called.made ≡ get = append_cancel_left (the_lane a.0).mine called.made get (sym called.did.acted.mine ∙ one.0) in
      subst (λ (xs : List Act). Passes z (λ p. false) xs a.0 b.0) same (passes-still called.did unmoved)

  hit-wider : Passes z (λ p. eqb p (place_of key)) (acts.Get (the_lane a.0).lane key (Some bytes) ∷ []) a.0 b.0
  hit-wider = passes-wider (λ p none. let bad : false ≡ true = none in absurd (cc bad)) hit-still

  pub hit-again : IsHit z key bytes a.0 b.0
  hit-again = record { passes = hit-wider; idle = called.idle; pushed = one.1; chain = called.did.chain }

  -- nor did it with moves of its place behind it touch any but those of its place
  pub hit-moved : {m : ℕ} {c : Me S View} → Carries z (place_of key) m b c → IsHit z key bytes a.0 c.0
  hit-moved carries =
      let same = carries.elsewhere in
      record { passes = passes-more hit-wider (passes-carries carries); idle = same.under ∙ called.idle; pushed = same.pushed ∙ one.1; chain = same.chain ∙ called.did.chain }

-- what a get that hits leaves of a lane: it fits as before, has the reference, and its fillings are still its
pub record Gained {T : Type 0} (content : T → List ℕ) (room : T → ℕ) (z : Shape) (key : ℕ) (bytes : List ℕ) (v w : View) (s t : LaneState T) : Type 0 where
  pub fits : Fits content room z w t
  pub holds : 1 ≤ references_seen t.shape w key
  pub did : (table table_now : TableId) → table_now ≡ table → Did (acts.Get s.number key (Some bytes) ∷ []) (lane_of table v s) (lane_of table_now w t)
  pub refs : held_after (the_lane w).mine 0 ≡ held_after (the_lane v).mine 0 + 1
  pub fillings : (table table_now : TableId) → table_now ≡ table → (filling : FillingOf T) → Made (lane_of table v s) filling → Made (lane_of table_now w t) filling

module _ {T : Type 0} {content : T → List ℕ} {room : T → ℕ} {z : Shape} {v : View} {s : LaneState T} (fits : Fits content room z v s) where
  -- ---- before

  -- the references to a key are among all, and none where the row of its place has none
  pub seen-within : (key : ℕ) → is_place z (place_of key) ≡ true → references_seen z v key ≤ held_after (the_lane v).mine 0
  seen-within key inside =
      let low = rows-low (place_of key) fits.rows inside in
      let all = fits.rows.by_acts in ⊎_elim
      (λ (there : (row : HeldKey T) × (slot_start z (place_of key) < length s.rows.items) × (slice_get s.rows.items (slot_start z (place_of key)) ≡ Some row) × _).
      let fit = fits.rows.each (place_of key) there.0 inside there.2 in
      let most = rows-count-le (slot_start z (place_of key)) there.0 fits.rows there.2 in
      dite (ℕ_discrete (references_seen z v key) 0)
      (λ (none : references_seen z v key ≡ 0). omega (arith, none))
      (λ (some : references_seen z v key ≢ 0). let is = (row-of-refs key fit (omega (arith, some))).3 in omega (arith, is, most, all)))
      (λ (past : (length s.rows.items ≤ slot_start z (place_of key)) × _). let high = past.0 in absurd (omega (arith, high, low)))
      (slice_get_cases s.rows.items (slot_start z (place_of key))).1

  pub none-seen : (key : ℕ) (row : HeldKey T) → FitsRow content room z v (place_of key) row → row.count ≡ 0 → references_seen z v key ≡ 0
  none-seen key row fit none = dite (ℕ_discrete (references_seen z v key) 0)
      (λ (is : references_seen z v key ≡ 0). is)
      (λ (some : references_seen z v key ≢ 0). let has = (row-of-refs key fit (omega (arith, some))).2 in absurd (omega (arith, has, none)))

  -- ---- what a hit left

  module _ {key : ℕ} {bytes : List ℕ} {w : View} (hit : IsHit z key bytes v w) where
    -- the lane has a reference to the key
    pub hit-one : 0 < references_seen z w key
    hit-one =
        let had : ℕ = references_seen z v key in
        let is : references_seen z w key ≡ had + 1
        = refs-got (the_lane v).lane key bytes hit.passes fits.seat.own key ∙ ap (λ (b : Bool). cond b (had + 1) had) (eq-eqb key key refl) in omega (arith, is)

    pub hit-key : is_key z key ≡ true
    hit-key = (key-now z (pool_after z w.seen) (the_lane w).lane key hit-one).0

    keeps : (p : ℕ) → All (λ act. gives_away act p ≡ false) (acts.Get (the_lane v).lane key (Some bytes) ∷ [])
    keeps p = All-cons (λ act. gives_away act p ≡ false) (acts.Get (the_lane v).lane key (Some bytes)) [] refl (All-nil (λ act. gives_away act p ≡ false))

    -- its place wasn't with the lane: it is published now, and it would be with the lane still
    hit-away : (pool_after z v.seen (place_of key)).phase ≢ with (the_lane v).lane
    hit-away is =
        let told = held-content-law z w.seen (the_lane w).lane key hit.passes.acted.legal hit-one in
        let bad : published told.0 told.1 told.2 ≡ with (the_lane w).lane
        = sym told.3 ∙ still-with hit.passes.acted fits.seat.paired fits.seat.own (place_of key) is (keeps (place_of key)) in cc bad

    -- nor was it one that the lane retired
    hit-retires : Retires z (λ p. eqb p (place_of key)) (acts.Get (the_lane v).lane key (Some bytes) ∷ []) v w
    hit-retires = retires-else z (place_of key) (acts.Get (the_lane v).lane key (Some bytes) ∷ []) v w (onlyat-get (the_lane v).lane key (Some bytes)) (λ was.
        let told = held-content-law z w.seen (the_lane w).lane key hit.passes.acted.legal hit-one in
        let mine : has_retired z (place_of key) (the_lane w).mine false ≡ true
        = ap (λ (xs : List Act). has_retired z (place_of key) xs false) hit.passes.acted.mine
        ∙ (retired-append z (place_of key) (the_lane v).mine (acts.Get (the_lane v).lane key (Some bytes) ∷ []) false ∙ was) in
        let bad : published told.0 told.1 told.2 ≡ retired
        = sym told.3 ∙ retired-phase z w.seen (the_lane w).mine (the_lane w).lane (place_of key) hit.passes.acted.legal hit.passes.acted.own mine in absurd (cc bad))

    hit-refs : held_after (the_lane w).mine 0 ≡ held_after (the_lane v).mine 0 + 1
    hit-refs =
        ap (λ (xs : List Act). held_after xs 0) hit.passes.acted.mine ∙ held-append (the_lane v).mine (acts.Get (the_lane v).lane key (Some bytes) ∷ []) 0

    -- the lane may have its share
    pub hit-may : HeldLaw → MayTouch z w (place_of key) s.number
    hit-may law = subst (λ (l : ℕ). MayTouch z w (place_of key) l) (hit.passes.acted.lane ∙ sym fits.seat.number_is) (law z w key hit-one)

    -- the rows and the count alone were written
    module _ (t : LaneState T) (rest : t ≡ record s { rows = t.rows; references = s.references + 1 }) where
      shape_now : t.shape ≡ z
      shape_now = ap (λ (x : LaneState T). x.shape) rest ∙ fits.shape_is

      hit-fits : FitsRows content room z w t.rows.items (s.references + 1) → AreStanding s.objects.directory t.rows.items → Fits content room z w t
      hit-fits rows standing =
          let apart = elsewhere-apart fits.stores (place_of key) hit-away in
          let stores = stores-apart fits.stores fits.seat.paired fits.seat.own hit.chain (onlyat-get (the_lane v).lane key (Some bytes)) hit.passes apart in
          subst (λ (x : LaneState T). Fits content room z w x) (sym rest) (record {
            shape_is = fits.shape_is;
            placed = fits.placed;
            seat = seat-passes fits.seat hit.passes hit.idle (abroad-one z s.number (acts.Get (the_lane v).lane key (Some bytes)) (λ p within other. refl)) hit-retires;
            last_pushed = last_pushed-same fits.last_pushed hit.pushed;
            rows = rows;
            stores = stores;
            rights = fits.rights;
            standing = standing;
          })

      list_now : t.free ≡ record s.free { own = s.free.own ++ [] }
      list_now = ap (λ (x : LaneState T). x.free) rest ∙ sym (ap (λ xs. record s.free { own = xs }) (append-nil s.free.own))

      hit-did : (table table_now : TableId) → table_now ≡ table → Did (acts.Get s.number key (Some bytes) ∷ []) (lane_of table v s) (lane_of table_now w t)
      hit-did table table_now same =
          subst (λ (l : ℕ). Did (acts.Get l key (Some bytes) ∷ []) (lane_of table v s) (lane_of table_now w t)) (sym fits.seat.number_is)
          (did-lane z (lane_of table v s) (lane_of table_now w t) fits.shape_is shape_now (ap (λ (x : LaneState T). x.number) rest) same
          (ap (λ (x : LaneState T). x.objects.directory) rest) hit.passes fits.seat.own list_now
          (ap (λ (x : LaneState T). x.pages) rest))

      hit-holds : 1 ≤ references_seen t.shape w key
      hit-holds = subst (λ (y : Shape). 1 ≤ references_seen y w key) (sym shape_now) (let one = hit-one in omega (arith, one))

      hit-fillings : (table table_now : TableId) → table_now ≡ table → (filling : FillingOf T) → Made (lane_of table v s) filling → Made (lane_of table_now w t) filling
      hit-fillings table table_now same filling was =
          let p : ℕ = place_of filling.key in
          let mine : (pool_after z v.seen p).phase ≡ with (the_lane v).lane
          = subst (λ (y : Shape). (pool_after y v.seen p).phase ≡ with (the_lane v).lane) fits.shape_is (was.place.with_lane ∙ ap with fits.seat.number_is) in
          let off : eqb p (place_of key) ≡ false = ne_eqb p (place_of key)
          (λ here. hit-away (subst (λ (q : ℕ). (pool_after z v.seen q).phase ≡ with (the_lane v).lane) here mine)) in
          made-passes z (lane_of table v s) (lane_of table_now w t) filling fits.shape_is shape_now (sym fits.seat.number_is) (ap (λ (x : LaneState T). x.number) rest) same
          (ap (λ (x : LaneState T). x.objects.directory) rest)
          hit.passes fits.seat.paired fits.seat.own hit.idle hit.chain list_now (ap (λ (x : LaneState T). x.pages) rest) off (keeps p) was

      pub gained : FitsRows content room z w t.rows.items (s.references + 1) → AreStanding s.objects.directory t.rows.items → Gained content room z key bytes v w s t
      gained rows standing = record { fits = hit-fits rows standing; holds = hit-holds; did = hit-did; refs = hit-refs; fillings = hit-fillings }

-- ---- the rows after a hit

module _ {T : Type 0} {content : T → List ℕ} {room : T → ℕ} {z : Shape} {key n : ℕ} {a b : Me (Option (Share T)) View} {s : LaneState T} (fits : Fits content room z a.0 s)
    (called : Called z (Getting key) n a b) (bytes : List ℕ) (one : MadeOne a.0 b.0 (acts.Get (the_lane a.0).lane key (Some bytes)))
    (unmoved : IsUnmoved (place_of key) (the_lane a.0) (the_lane b.0)) (row : HeldKey T) (stood : slice_get s.rows.items (slot_start z (place_of key)) ≡ Some row) where
  -- the row has one more
  pub rows-again : 0 < row.count → FitsRows content room z b.0 (slice_set s.rows.items (slot_start z (place_of key)) (record row { count = row.count + 1 })) (s.references + 1)
  rows-again some =
      (rows-got-again fits.seat.own fits.seat.shape fits.rows (the_lane a.0).lane key (hit-key fits (hit-again called bytes one unmoved)) row stood (λ p other. refl) bytes
      (hit-still called bytes one unmoved) some refl).1

  -- it has one more, after two looks at the lane's slot
  pub rows-again-then : {spots : ℕ → CellSpot} {c : Me (Option (Share T)) View} → Peeks content room spots z (place_of key) s.number b c → status_of (the_lane b.0) (place_of key) s.number ≡ Emptied → 0 < row.count
      → (generation_of key ≡ row.generation) × FitsRows content room z c.0 (slice_set s.rows.items (slot_start z (place_of key)) (record row { count = row.count + 1 })) (s.references + 1)
  rows-again-then peeks empty some =
      let carries = carries-peek peeks in
      let still = passes-more (hit-still called bytes one unmoved) (passes-still (did-carries {looks = 2} carries (omega arith)) (peek-unmoved empty peeks)) in
      rows-got-again fits.seat.own fits.seat.shape fits.rows (the_lane a.0).lane key (hit-key fits (hit-moved called bytes one unmoved carries)) row stood (λ p other. refl) bytes
      still some refl

  -- it has the first, with the share that was taken out
  pub rows-begun : {spots : ℕ → CellSpot} {share : Share T} {c : Me (Option (Share T)) View} → Outs content room spots z (place_of key) s.number Untouched b share c → row.count ≡ 0
      → FitsRows content room z c.0 (slice_set s.rows.items (slot_start z (place_of key)) (record { generation = generation_of key; count = 1; share = Some share })) (s.references + 1)
  rows-begun {share = share} {c = c} outs none =
      let hit = hit-moved called bytes one unmoved (carries-out outs) in
      let number : s.number ≡ (the_lane c.0).lane = fits.seat.number_is ∙ sym hit.passes.acted.lane in
      let held = held-made key (room_of c.0.seen c.0.rooms (place_of key)) share hit.passes.acted.legal (hit-one fits hit) (outs.is_left.number_is ∙ number) outs.is_left.of_is
      (ap (λ (l : ℕ). status_of (the_lane c.0) (place_of key) l) (sym number) ∙ moves-here (out-moves outs)) (moves-known (out-moves outs)) outs.kept in
      rows-got-first fits.seat.own fits.seat.shape fits.rows (the_lane a.0).lane key (hit-key fits hit) row stood (λ p other. ne_eqb p (place_of key) other) bytes share
      hit.passes none held

-- ---- a miss

-- what a get that missed tells, with the number that the state has
pub miss-told : {T : Type 0} {content : T → List ℕ} {room : T → ℕ} {z : Shape} {key n : ℕ} {a b : Me (Option (Share T)) View} {s : LaneState T} (reclaimed : Option (Reclaimed T))
    → Fits content room z a.0 s → Called z (Getting key) n a b → GetMisses content room z key a b reclaimed
    → EndsWithActs z (place_of key) (acts.Get s.number key None ∷ []) a.0 b.0 reclaimed × IfSome reclaimed (IsReclaimed content room z (place_of key) s.number b.0)
miss-told {content = content} {room = room} {z = z} {key = key} {a = a} {b = b} reclaimed fits called got =
    subst (λ (l : ℕ). EndsWithActs z (place_of key) (acts.Get l key None ∷ []) a.0 b.0 reclaimed × IfSome reclaimed (IsReclaimed content room z (place_of key) l b.0))
    (sym fits.seat.number_is) got
