-- What a call of a key finds before it, and what it then leaves of its lane.
use Rattle.std.proofs.lemmas.Option.{slice_get_cases, get_or_from_slice_get}
use Rattle.std.proofs.Common.{◌≡◌, ◌≢◌, ◌⊎◌, ⊎_elim, ◌≤◌, inl, inr, arith, ◌==◌, ℕ, ◌+◌, ◌<◌, Bool, true, List, [], ◌∷◌, length, Option, Some, None, IfSome, refl, sym, ap, ◌∙◌, subst, slice_get, slice_index, slice_index_or, slice_set, if◌then◌else◌}
use Rattle.atomic_table.specs.Table.{Me}
use Rattle.poolsteps.specs.Share.{Share}
use Rattle.keybits.specs.declared.shape.Shape.{Shape}
use Rattle.keybits.specs.Places.{shard_of}
use Rattle.keybits.proofs.ShapeLemmas.{is_place-parts}
use Rattle.keybits.specs.Keys.{place_of, is_key, generation_of}
use Rattle.freelists.specs.Queues.{IsAway}
use Rattle.freelists.specs.Shards.{place_numbered}
use Rattle.seqpool.specs.declared.act.Act.TheVariants as acts
use Rattle.poolsteps.specs.declared.view.Status.TheVariants.{Untouched, Emptied}
use Rattle.steplaws.specs.Calls.Call.{Getting, Clearing}
use Rattle.poolsteps.specs.declared.grid.Spot.{Spot}
use denote.RawPtr.{Ptr}
use Rattle.poolsteps.specs.Whole.{Whole}
use Rattle.poolsteps.specs.Layout.{slot_start, spots_at}
use Rattle.poolsteps.specs.declared.view.View.{View}
use Rattle.poolsteps.specs.Views.{the_lane, status_of}
use Rattle.poolsteps.specs.Grids.{IsSpot}
use Rattle.poolsteps.specs.Told.{MayTouch, references_seen}
use Rattle.poolsteps.specs.Moved.{Outs, Peeks}
use Rattle.poolsteps.specs.ViewLaws.{HeldLaw}
use Rattle.seatcalls.specs.declared.at.Reclaimed.{Reclaimed}
use Rattle.seatcalls.specs.declared.at.Reclaimed.TheVariants.{Own}
use Rattle.seatcalls.specs.declared.at.At.{At}
use Rattle.seatcalls.specs.AtPlace.{IsAt}
use Rattle.seatcalls.specs.Called.{Called, GetHits, GetMisses, IsReclaimed, EndsWithActs}
use Rattle.seatcalls.proofs.parts.Moves.{carries-out, carries-peek}
use Rattle.shardpool.specs.Lendings.{Gains}
use mathlib.Core.Logic.{dite}
use native.Mathlib.Decide.{ℕ_discrete}
use Rattle.shardpool.specs.HeldKeys.{HeldKey}
use Rattle.shardpool.specs.declared.pool.LaneState.{LaneState}
use Rattle.shardpool.specs.Tokens.{PoolOf, LaneOf}
use Rattle.shardpool.specs.Stores.{Keeps}
use Rattle.shardpool.specs.LaneStates.{FitsRows, Fits}
use Rattle.shardpool.specs.Lanes.{holds}
use Rattle.shardpool.proofs.calls.Ends.{own-away}
use Rattle.shardpool.proofs.calls.Gets.{Gained, gained, hit-again, hit-moved, hit-may, none-seen, rows-again, rows-again-then, rows-begun, miss-told}
use Rattle.shardpool.proofs.calls.QuietEnds.{Quieted, quieted, quiet-clear, quiet-miss}
use Rattle.shardpool.proofs.references.Standings.{standing-set, standing-same}
use Rattle.shardpool.proofs.references.RowChanges.{rows-low, rows-stand, rows-counts}
use Rattle.shardpool.proofs.frame.SeenHistories.{same-shape}

-- what the lane keeps fits, at the shape of the grid, and the spot is that of the key's place
pub record Ready {T : Type 0} (content : T → List ℕ) (room : T → ℕ) (z : Shape) (key : ℕ) (spot : Spot) (v : View) (s : LaneState T) : Type 0 where
  pub fits : Fits content room z v s
  pub there : IsSpot z spot (place_of key)

-- so it is for a lane of a pool
pub ready : {T : Type 0} {content : T → List ℕ} {room : T → ℕ} {view lane : LaneOf} {grid pool : PoolOf} {s : LaneState T} {key : ℕ} {spot : Spot} → view ≡ lane
    → lane.shape ≡ pool.shape → grid ≡ pool → Fits content room view.shape view.book s → IsSpot pool.shape spot (place_of key)
    → Ready content room grid.shape key spot view.book s
ready {content = content} {room = room} {view = view} {s = s} {key = key} {spot = spot} seen owned of_pool fits there = record {
  fits = subst (λ (z : Shape). Fits content room z view.book s) (sym (same-shape seen owned of_pool)) fits;
  there = subst (λ (p : PoolOf). IsSpot p.shape spot (place_of key)) (sym of_pool) there;
}

-- what the row of its place counts is how many references the lane has to the key
pub counts-held : {T : Type 0} {content : T → List ℕ} {room : T → ℕ} {view lane : LaneOf} {z : Shape} {s : LaneState T} {key : ℕ} {spot : Spot} → view ≡ lane
    → lane.shape ≡ z → Ready content room z key spot view.book s → is_key z key ≡ true → (count : ℕ)
    → ((row : HeldKey T) → slice_get s.rows.items spot.start ≡ Some row → count ≡ (if generation_of key == row.generation then row.count else 0)) → count ≡ holds lane key
counts-held {lane = lane} {z = z} {key = key} {spot = spot} seen owned before inside count counts =
    rows-counts key spot.start before.fits.rows inside before.there.start count counts
    ∙ (ap (λ (l : LaneOf). references_seen z l.book key) seen ∙ ap (λ (y : Shape). references_seen y lane.book key) (sym owned))

module _ {T : Type 0} {content : T → List ℕ} {room : T → ℕ} {z : Shape} {key : ℕ} {spot : Spot} {v : View} {s : LaneState T} (before : Ready content room z key spot v s) where
  -- the place has a row
  pub ready-low : spot.start < length s.rows.items
  ready-low = subst (λ (i : ℕ). i < length s.rows.items) (sym before.there.start) (rows-low (place_of key) before.fits.rows before.there.inside)

  pub ready-row : (row : HeldKey T) × (row ≡ slice_index_or s.rows.items spot.start row) × (slice_get s.rows.items spot.start ≡ Some row)
  ready-row = ⊎_elim
      (λ (there : (row : HeldKey T) × (spot.start < length s.rows.items) × (slice_get s.rows.items spot.start ≡ Some row) × _).
      (there.0, sym (get_or_from_slice_get s.rows.items spot.start there.0 there.0 there.2), there.2))
      (λ (past : (length s.rows.items ≤ spot.start) × _). let high = past.0 in let low = ready-low in absurd (omega (arith, high, low)))
      (slice_get_cases s.rows.items spot.start).1

  -- and the call acts there
  pub ready-at : (acting : At) → acting.spot ≡ spot → acting.lane ≡ s.number → acting.tops.now.items ≡ s.last_pushed.items → IsAt z v (place_of key) acting
  ready-at acting there number tops =
      let fits = before.fits in
      let at = before.there in record {
        spot = subst (λ (x : Spot). IsSpot z x (place_of key)) (sym there) at;
        lane = number ∙ fits.seat.number_is;
        below = subst (λ (n : ℕ). n < z.lanes) (sym number) fits.seat.below;
        shard = rw (tops, fits.last_pushed.wide) (is_place-parts z (place_of key) at.inside).0;
        top = ap (λ (words : List ℕ). slice_index words (shard_of (place_of key))) tops
            ∙ fits.last_pushed.each (shard_of (place_of key)) (is_place-parts z (place_of key) at.inside).0;
      }

-- ---- a call that makes no reference and gives none back

module _ {T : Type 0} {content : T → List ℕ} {room : T → ℕ} {z : Shape} {key looks : ℕ} {spot : Spot} {a b : Me (Option (Share T)) View} {s : LaneState T}
    (before : Ready content room z key spot a.0 s) (reclaimed : Option (Reclaimed T)) where
  pub missed-away : Called z (Getting key) looks a b → GetMisses content room z key a b reclaimed → (whole : Whole T) → reclaimed ≡ Some (Own whole)
      → IsAway s.free (place_numbered (place_of key))
  missed-away called got whole is =
      let told = miss-told reclaimed before.fits called got in own-away before.fits b.0 (place_of key) reclaimed before.there.inside told.0.2 told.1 whole is

  -- a get that misses
  pub missed : (t : LaneState T) → Keeps (place_of key) reclaimed s t → Called z (Getting key) looks a b → GetMisses content room z key a b reclaimed
      → Quieted content room z (acts.Get s.number key None ∷ []) a.0 b.0 s t
  missed t kept called got =
      let told = miss-told reclaimed before.fits called got in
      quieted s t (acts.Get s.number key None ∷ []) reclaimed before.fits called.did called.idle told.0 told.1 before.there.inside (quiet-miss z s.number s.number key) kept

  -- a clear
  pub cleared-away : (reply : Bool) → Called z (Clearing key) looks a b → EndsWithActs z (place_of key) (acts.Clear s.number key reply ∷ []) a.0 b.0 reclaimed
      → IfSome reclaimed (IsReclaimed content room z (place_of key) s.number b.0) → (whole : Whole T) → reclaimed ≡ Some (Own whole) → IsAway s.free (place_numbered (place_of key))
  cleared-away reply called acts_so told whole is = own-away before.fits b.0 (place_of key) reclaimed before.there.inside acts_so.2 told whole is

  pub cleared : (t : LaneState T) → Keeps (place_of key) reclaimed s t → (reply : Bool) → Called z (Clearing key) looks a b
      → EndsWithActs z (place_of key) (acts.Clear s.number key reply ∷ []) a.0 b.0 reclaimed → IfSome reclaimed (IsReclaimed content room z (place_of key) s.number b.0)
      → Quieted content room z (acts.Clear s.number key reply ∷ []) a.0 b.0 s t
  cleared t kept reply called acts_so told =
      quieted s t (acts.Clear s.number key reply ∷ []) reclaimed before.fits called.did called.idle acts_so told before.there.inside (quiet-clear z s.number s.number key reply) kept

-- ---- a get that hits

module _ {T : Type 0} {content : T → List ℕ} {room : T → ℕ} {z : Shape} {key looks : ℕ} {spot : Spot} {a b : Me (Option (Share T)) View} {s : LaneState T}
    (before : Ready content room z key spot a.0 s) (called : Called z (Getting key) looks a b) (got : GetHits z key a b) where
  -- the lane may have its share
  pub hit-touches : HeldLaw → MayTouch z b.0 spot.place s.number
  hit-touches law = subst (λ (p : ℕ). MayTouch z b.0 p s.number) (sym before.there.place_is) (hit-may before.fits (hit-again called got.0 got.1 got.2) law)

  module _ (row : HeldKey T) (read : row ≡ slice_index_or s.rows.items spot.start row) where
    stood : slice_get s.rows.items (slot_start z (place_of key)) ≡ Some row
    stood = rows-stand (place_of key) spot.start row before.fits.rows before.there.inside before.there.start read

    -- and left it in its slot, where it had no reference
    pub hit-untouched : row.count ≡ 0 → status_of (the_lane b.0) spot.place s.number ≡ Untouched
    hit-untouched none =
        rw (before.there.place_is, before.fits.seat.number_is) (got.3 (none-seen before.fits key row (before.fits.rows.each (place_of key) row before.there.inside stood) none))

    -- where it has one, it emptied the slot
    hit-emptied : 0 < row.count → status_of (the_lane b.0) spot.place s.number ≡ Emptied
    hit-emptied some =
        let h = (before.fits.rows.each (place_of key) row before.there.inside stood).held some in
        rw (before.there.place_is, before.fits.seat.number_is) (got.2.deeds (the_lane a.0).lane ∙ h.2.emptied)

    pub hit-left : (status_of (the_lane b.0) spot.place s.number ≡ Untouched) ⊎ (status_of (the_lane b.0) spot.place s.number ≡ Emptied)
    hit-left = dite (ℕ_discrete row.count 0)
        (λ (none : row.count ≡ 0). inl (hit-untouched none))
        (λ (some : row.count ≢ 0). inr (hit-emptied (omega (arith, some))))

    module _ (t : LaneState T) (rest : t ≡ record s { rows = t.rows; references = s.references + 1 }) where
      -- its row has one more
      pub gained-again : 0 < row.count → ((r : HeldKey T) → slice_get s.rows.items spot.start ≡ Some r → t.rows.items ≡ slice_set s.rows.items spot.start (record r { count = r.count + 1 }))
          → Gained content room z key got.0 a.0 b.0 s t
      gained-again some written =
          let there = before.there.start in
          let more : HeldKey T = record row { count = row.count + 1 } in
          let items : t.rows.items ≡ slice_set s.rows.items (slot_start z (place_of key)) more
          = written row (ap (slice_get s.rows.items) there ∙ stood) ∙ ap (λ (i : ℕ). slice_set s.rows.items i more) there in
          gained before.fits (hit-again called got.0 got.1 got.2) t rest
          (subst (λ xs. FitsRows content room z b.0 xs (s.references + 1)) (sym items) (rows-again before.fits called got.0 got.1 got.2 row stood some))
          (standing-same items refl (standing-set s.rows.items (slot_start z (place_of key)) more before.fits.standing (λ shown share. before.fits.standing (slot_start z (place_of key)) row shown stood share)))

      -- or its first, with the share that was taken out
      pub gained-first : {at : Ptr} {share : Share T} {c : Me (Option (Share T)) View} → s.objects.directory ≡ at → row.count ≡ 0 → Outs content room (spots_at at z) z spot.place s.number Untouched b share c
          → t.rows.items ≡ slice_set s.rows.items spot.start (record { generation = generation_of key; count = 1; share = Some share }) → Gained content room z key got.0 a.0 c.0 s t
      gained-first {at = at} {share = share} {c = c} directory none taken written =
          let outs = subst (λ (p : ℕ). Outs content room (spots_at at z) z p s.number Untouched b share c) before.there.place_is taken in
          let first : HeldKey T = record { generation = generation_of key; count = 1; share = Some share } in
          let items : t.rows.items ≡ slice_set s.rows.items (slot_start z (place_of key)) first = written ∙ ap (λ (i : ℕ). slice_set s.rows.items i first) before.there.start in
          gained before.fits (hit-moved called got.0 got.1 got.2 (carries-out outs)) t rest
          (subst (λ xs. FitsRows content room z c.0 xs (s.references + 1)) (sym items) (rows-begun before.fits called got.0 got.1 got.2 row stood outs none))
          (standing-same items refl (standing-set s.rows.items (slot_start z (place_of key)) first before.fits.standing (λ shown is. let same : share ≡ shown = cc is in
          subst (λ (x : Share T). x.spot ≡ record { directory = s.objects.directory; index = slot_start z (place_of key) }) same (outs.is_left.spot_is ∙ ap (λ (p : Ptr). spots_at p z (place_of key)) (sym directory)))))

      -- or whichever of the two, with what was fetched
      pub gained-fetched : {at : Ptr} {c : Me (Option (Share T)) View} → s.objects.directory ≡ at → Gains content room (spots_at at z) z spot key row b c s t → Gained content room z key got.0 a.0 c.0 s t
      gained-fetched {at = at} {c = c} directory gains = dite (ℕ_discrete row.count 0)
          (λ (none : row.count ≡ 0).
          let first = gains.fetches.first (hit-untouched none) in
          gained-first directory none first.2
          (gains.rows ∙ (λ i. slice_set s.rows.items spot.start (record { generation = generation_of key; count = ap (λ (n : ℕ). n + 1) none i; share = first.1 i }))))
          (λ (more : row.count ≢ 0).
          let some : 0 < row.count = omega (arith, more) in
          let empty = hit-emptied some in
          let again = gains.fetches.again empty in
          let place = before.there.place_is in
          let peeks = subst (λ (p : ℕ). Peeks content room (spots_at at z) z p s.number b c) place again.1 in
          let there = subst (λ (p : ℕ). status_of (the_lane b.0) p s.number ≡ Emptied) place empty in
          let told = rows-again-then before.fits called got.0 got.1 got.2 row stood peeks there some in
          let row_now : HeldKey T = record row { count = row.count + 1 } in
          let items : t.rows.items ≡ slice_set s.rows.items (slot_start z (place_of key)) row_now
          = gains.rows ∙ (λ i. slice_set s.rows.items (before.there.start i) (record { generation = told.0 i; count = row.count + 1; share = again.0 i })) in
          gained before.fits (hit-moved called got.0 got.1 got.2 (carries-peek peeks)) t rest
          (subst (λ xs. FitsRows content room z c.0 xs (s.references + 1)) (sym items) told.1)
          (standing-same items refl (standing-set s.rows.items (slot_start z (place_of key)) row_now before.fits.standing (λ shown share. before.fits.standing (slot_start z (place_of key)) row shown stood share))))
