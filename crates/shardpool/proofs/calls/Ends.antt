-- What a call that left a place, and perhaps reclaimed it, leaves of what the lane keeps.
use Rattle.std.proofs.Common.{◌≡◌, ◌≢◌, ℕ, ◌<◌, Bool, true, false, not, ◌&&◌, cond, eqb, List, [], ◌∷◌, ◌++◌, Option, Some, None, IfSome, refl, sym, ap, ◌∙◌, subst, arith, append_assoc, append-nil, eq-eqb, ne_eqb, inl}
use Rattle.std.specs.Prelude.{slice_set, slice_index}
use Rattle.std.proofs.lemmas.List.{append_cancel_left}
use Rattle.std.specs.List.{All}
use Rattle.atomic_table.specs.Table.{Me}
use Rattle.atomic_table.specs.declared.shared.Seat.{Seat}
use Rattle.keybits.specs.declared.shape.Shape.{Shape}
use Rattle.keybits.specs.declared.place.Place.{Place}
use Rattle.keybits.specs.Places.{shard_of}
use Rattle.keybits.specs.Shapes.{IsShape, is_place, index_of}
use Rattle.keybits.specs.Keys.{place_of, generation_of, tag_of, key_number, is_key}
use Rattle.keybits.proofs.ShapeLemmas.{place_bounds, is_place-parts}
use Rattle.keybits.proofs.KeyLemmas.{place_of-key_number, generation_of-key_number, key_parts}
use Rattle.freelists.specs.Shards.{place_numbered}
use Rattle.freelists.specs.Queues.{FreePlaces, IsAway}
use Rattle.seqpool.specs.declared.act.Act.{Act}
use Rattle.seqpool.specs.declared.act.Act.TheVariants as acts
use Rattle.seqpool.specs.Pool.{with, has, fresh, pool_after, IsLegal}
use Rattle.seqpool.proofs.Growth.{legal-rest}
use Rattle.seqpool.proofs.Ranks.{current-key}
use Rattle.seqpool.specs.Histories.{acts_of}
use Rattle.steplaws.specs.StepLaws.{reclaim}
use Rattle.poolsteps.specs.PlaceLaws.{gives_away}
use Rattle.poolsteps.specs.declared.grid.Grid.{Grid}
use Rattle.poolsteps.specs.declared.grid.Spot.{Spot}
use Rattle.poolsteps.specs.Grids.{IsSpot}
use Rattle.poolsteps.specs.declared.view.LaneRecord.{LaneRecord}
use Rattle.poolsteps.specs.declared.view.View.{View}
use Rattle.poolsteps.specs.Views.{the_lane, pushed_in, status_of}
use Rattle.poolsteps.specs.ViewLaws.{references_with, references_made}
use Rattle.poolsteps.specs.declared.view.Status.TheVariants.{Untouched, Emptied}
use Rattle.poolsteps.specs.Share.{Share}
use Rattle.poolsteps.specs.Whole.{Whole}
use Rattle.poolsteps.specs.Told.{IsIdle}
use Rattle.seatcalls.specs.declared.at.At.{At}
use Rattle.seatcalls.specs.declared.at.Reclaimed.{Reclaimed}
use Rattle.seatcalls.specs.declared.at.Reclaimed.TheVariants.{Own, Returned, Retired}
use Rattle.seatcalls.specs.Acted.{Acted}
use Rattle.seatcalls.specs.AtPlace.{MayAct}
use Rattle.poolsteps.specs.Layout.{shard_start, spots_at}
use denote.RawPtr.{Ptr}
use Rattle.poolsteps.specs.Spot.{Spot as CellSpot}
use Rattle.seatcalls.specs.Called.{Did, IsReclaimed, StandsAt, EndsWithActs, FitsGeneration, MovedNothing, end_acts, end_pushed}
use Rattle.shardpool.specs.declared.pool.LaneState.{LaneState}
use Rattle.seatcalls.specs.Left.{held_after, has_retired}
use Rattle.shardpool.specs.LaneStates.{FitsSeat, FitsTops, FitsStores, FitsRights, IsHeld, FitsRows, Fits}
use Rattle.shardpool.specs.Stores.{Keeps}
use Rattle.shardpool.specs.Finishes.{IsKeeper, MayKeep}
use Rattle.shardpool.specs.Lanes.{freed}
use Rattle.seatcalls.proofs.parts.OtherShards.{NoneAbroad, abroad-append, abroad-own, abroad-returned, abroad-retired}
use Rattle.seatcalls.proofs.parts.Frames.{Passes, OnlyAt}
use Rattle.shardpool.proofs.frame.LaneFrames.{passes-did, passes-still, onlyat-append, onlyat-end}
use Rattle.shardpool.proofs.frame.KeptPlaces.{seat-passes, last_pushed-same, last_pushed-pushed}
use Rattle.shardpool.proofs.free.Rights.{rights-set}
use Rattle.shardpool.proofs.free.Stores.{FitsShelf, IsKeepable, stores-still, stores-apart, stores-reclaimed, alone-apart, apart-away}
use Rattle.shardpool.proofs.frame.BlankPlaces.{reclaimed-with, last-of}
use Rattle.shardpool.proofs.references.Rows.{rows-pass, held-append}
use Rattle.shardpool.proofs.references.RowChanges.{end-refs, end-held}
use Rattle.seatcalls.proofs.parts.RetiredPlaces.{Retires, retires-else, reclaimed-unretired, returned-unretired}

-- what the lane keeps beside its rows fits what it has seen and did
pub record FitsBeside {T : Type 0} (content : T → List ℕ) (room : T → ℕ) (z : Shape) (v : View) (s : LaneState T) : Type 0 where
  pub shape_is : s.shape ≡ z
  pub placed : s.places.shape ≡ z
  pub seat : FitsSeat z v s.number
  pub last_pushed : FitsTops z v s.last_pushed.items
  pub stores : FitsStores content room z v s.free s.pages s.objects.items
  pub rights : FitsRights z s.number s.pages.opened s.objects

pub fits-beside : {T : Type 0} {content : T → List ℕ} {room : T → ℕ} {z : Shape} {v : View} {s : LaneState T} → Fits content room z v s → FitsBeside content room z v s
fits-beside fits = record { shape_is = fits.shape_is; placed = fits.placed; seat = fits.seat; last_pushed = fits.last_pushed; stores = fits.stores; rights = fits.rights }

-- so what it knows of places is that of its shard
pub own-placed : {T : Type 0} {content : T → List ℕ} {room : T → ℕ} {z : Shape} {v : View} {s : LaneState T} → FitsBeside content room z v s
    → s.places.shape ≡ s.shape
own-placed fits = fits.placed ∙ sym fits.shape_is

-- after steps by which the lane pushed nothing, it can keep what becomes of a place
pub keeper : {T : Type 0} {content : T → List ℕ} {room : T → ℕ} {z : Shape} {v w : View} {s : LaneState T} {directory : Ptr} {place : ℕ} → FitsBeside content room z v s
    → s.objects.directory ≡ directory → is_place z place ≡ true → (the_lane w).lane ≡ (the_lane v).lane → (the_lane w).pushed ≡ (the_lane v).pushed → IsKeeper z directory place w s
keeper {z = z} {place = place} fits directory inside lane pushed =
    let shard = (is_place-parts z place inside).0 in record {
      shape = fits.seat.shape;
      shape_is = fits.shape_is;
      directory_is = directory;
      narrow = fits.stores.narrow;
      wide = fits.last_pushed.wide;
      begins = fits.rights.first_is ∙ ap (shard_start z) (fits.seat.number_is ∙ sym fits.stores.lists.0);
      lane = fits.seat.number_is ∙ sym lane;
      below = fits.seat.below;
      top = fits.last_pushed.each (shard_of place) shard ∙ ap (λ (pushes : List (ℕ × ℕ)). pushed_in pushes (shard_of place)) (sym pushed);
    }

pub keeper-still : {T : Type 0} {z : Shape} {v w : View} {s : LaneState T} {directory : Ptr} {place : ℕ} → the_lane w ≡ the_lane v → IsKeeper z directory place v s → IsKeeper z directory place w s
keeper-still {place = place} still before = record {
  shape = before.shape;
  shape_is = before.shape_is;
  directory_is = before.directory_is;
  narrow = before.narrow;
  wide = before.wide;
  begins = before.begins;
  lane = before.lane ∙ ap (λ (r : LaneRecord). r.lane) (sym still);
  below = before.below;
  top = before.top ∙ ap (λ (r : LaneRecord). pushed_in r.pushed (shard_of place)) (sym still);
}

-- and it acts at the key's place
pub keeps-act : {T : Type 0} {content : T → List ℕ} {room : T → ℕ} {grid : Grid T} {seat : Seat (Option (Share T)) View} {s : LaneState T} {here key : ℕ}
    {spot : Spot} → MayKeep content room grid seat s here key → (acting : At) → acting.spot ≡ spot → spot.place ≡ place_of key → spot.start ≡ here
    → acting.lane ≡ s.number → acting.tops.now.items ≡ s.last_pushed.items → MayAct grid seat (place_of key) acting
keeps-act {grid = grid} {key = key} keeps acting there place start number tops =
    let keeper = keeps.keeper in record {
      hand = keeps.hand;
      bare = keeps.bare;
      at = record {
        spot = record {
          place_is = ap (λ (x : Spot). x.place) there ∙ place;
          inside = keeps.inside;
          start = ap (λ (x : Spot). x.start) there ∙ (start ∙ keeps.start);
        };
        lane = number ∙ keeper.lane;
        below = subst (λ (n : ℕ). n < grid.shape.lanes) (sym number) keeper.below;
        shard = rw (tops, keeper.wide) (is_place-parts grid.shape (place_of key) keeps.inside).0;
        top = ap (λ (words : List ℕ). slice_index words (shard_of (place_of key))) tops ∙ keeper.top;
      };
    }

-- and what became of a place stands in a word of the lane's directory
pub own-stands : {T : Type 0} {content : T → List ℕ} {room : T → ℕ} {z : Shape} {v : View} {s : LaneState T} {directory : Ptr} {place at : ℕ} (reclaimed : Option (Reclaimed T))
    → FitsBeside content room z v s → s.objects.directory ≡ directory → at ≡ place → StandsAt (spots_at directory z place) reclaimed
    → StandsAt (spots_at s.objects.directory s.shape at) reclaimed
own-stands reclaimed fits directory same stands =
    subst (λ (spot : CellSpot). StandsAt spot reclaimed) (λ i. spots_at (sym directory i) (sym fits.shape_is i) (sym same i)) stands

-- and a spot of the pool is one of its shape
pub own-spot : {T : Type 0} {content : T → List ℕ} {room : T → ℕ} {z : Shape} {v : View} {s : LaneState T} {spot : Spot} {place : ℕ} → FitsBeside content room z v s
    → IsSpot z spot place → IsSpot s.shape spot spot.place
own-spot {s = s} {spot = spot} fits there = subst (λ (y : Shape). IsSpot y spot spot.place) (sym fits.shape_is) (subst (IsSpot _ spot) (sym there.place_is) there)

-- which slots such a call may have touched: those of the place where it was reclaimed, and none otherwise
abbrev pub touched_by : {T : Type 0} → ℕ → Option (Reclaimed T) → ℕ → Bool
touched_by place None p = false
touched_by place (Some reclaimed) p = eqb p place

-- ---- the acts

pub freed-append : (z : Shape) (lane : ℕ) (made more : List Act) → freed z lane (made ++ more) ≡ freed z lane made ++ freed z lane more
freed-append z lane [] more = refl
freed-append z lane (acts.Publish l key content with_ref ∷ made) more = freed-append z lane made more
freed-append z lane (acts.Get l key reply ∷ made) more = freed-append z lane made more
freed-append z lane (acts.Release l key ∷ made) more = freed-append z lane made more
freed-append z lane (acts.Clear l key reply ∷ made) more = freed-append z lane made more
freed-append z lane (acts.Reclaim l key ∷ made) more = behind (eqb (shard_of (place_of key)) lane && not (eqb (generation_of key) z.last_generation)) (freed-append z lane made more) where
  behind : (b : Bool) → freed z lane (made ++ more) ≡ freed z lane made ++ freed z lane more
      → cond b (place_numbered (place_of key) ∷ freed z lane (made ++ more)) (freed z lane (made ++ more))
      ≡ cond b (place_numbered (place_of key) ∷ freed z lane made) (freed z lane made) ++ freed z lane more
  behind true same = ap (λ (xs : List Place). place_numbered (place_of key) ∷ xs) same
  behind false same = same
freed-append z lane (acts.Home l place ∷ made) more = freed-append z lane made more
freed-append z lane (acts.Collect l places ∷ made) more = freed-append z lane made more

-- the key of a lane's last act, a Reclaim, is one of the shape
reclaimed-key : (z : Shape) (lane key : ℕ) (history mine : List Act) → IsLegal z history → acts_of lane history ≡ mine ++ acts.Reclaim lane key ∷ [] → is_key z key ≡ true
reclaimed-key z lane key history mine legal same =
    let last = last-of lane history mine (acts.Reclaim lane key) same in
    let parts : IsLegal z (last.before ++ acts.Reclaim lane key ∷ last.behind) = subst (IsLegal z) last.is legal in
    (current-key z (pool_after z last.before) key (legal-rest z fresh last.before (acts.Reclaim lane key ∷ last.behind) parts).1.0).0

-- so its generation is that from which it was packed
packed-generation : (z : Shape) (place generation : ℕ) → place < 16777216 → tag_of (key_number z.tag place generation) ≡ z.tag
    → generation_of (key_number z.tag place generation) ≡ generation
packed-generation z place generation small tag = generation_of-key_number z.tag place generation small (bounded z.tag place generation small tag) where
  bounded : (tag place generation : ℕ) → place < 16777216 → tag_of (key_number tag place generation) ≡ tag → generation < 4294967296
  bounded tag place generation small is = omega (arith, small, is)

-- the places that a reclaim brought to the own list
freed-one : (z : Shape) (lane key : ℕ) (b : Bool) → (eqb (shard_of (place_of key)) lane && not (eqb (generation_of key) z.last_generation)) ≡ b
    → freed z lane (acts.Reclaim lane key ∷ []) ≡ cond b (place_numbered (place_of key) ∷ []) []
freed-one z lane key b is = ap (λ (x : Bool). cond x (place_numbered (place_of key) ∷ []) []) is

both-true : (a b : Bool) → a ≡ true → b ≡ false → (a && not b) ≡ true
both-true a b on off = ap (λ (x : Bool). x && not b) on ∙ ap not off

second-true : (a b : Bool) → b ≡ true → (a && not b) ≡ false
second-true true b on = ap not on
second-true false b on = refl

-- ---- by what became of the place

passes-by : {S T : Type 0} {z : Shape} {place steps looks : ℕ} {made : List Act} {a b : Me S View} (reclaimed : Option (Reclaimed T)) → Did z place made steps looks a b
    → MovedNothing z place (the_lane a.0) (the_lane b.0) reclaimed → Passes z (touched_by place reclaimed) made a.0 b.0
passes-by None did moved = passes-still did moved
passes-by (Some reclaimed) did moved = passes-did did

pub some-lane : {z : Shape} {v : View} {n : ℕ} → FitsSeat z v n → 0 < z.lanes
some-lane seat = let below = seat.below in omega (arith, below)

module _ {T : Type 0} {content : T → List ℕ} {room : T → ℕ} {z : Shape} {v w : View} {s : LaneState T} (fits : FitsBeside content room z v s) where
  stores-by : {place : ℕ} {made : List Act} (reclaimed : Option (Reclaimed T)) → Passes z (touched_by place reclaimed) made v w → (the_lane w).chain ≡ (the_lane v).chain
      → MovedNothing z place (the_lane v) (the_lane w) reclaimed → OnlyAt place made → (reclaimed ≡ None → All (λ act. gives_away act place ≡ false) made)
      → FitsShelf content room z w s
  stores-by None passes chain moved only keeps = stores-still fits.stores fits.seat.paired fits.seat.own chain only passes (keeps refl)
  stores-by {place = place} (Some reclaimed) passes chain moved only keeps =
      stores-apart fits.stores fits.seat.paired fits.seat.own chain only passes (alone-apart fits.stores (some-lane fits.seat) place moved)

  last_pushed-by : (t : LaneState T) (place : ℕ) (reclaimed : Option (Reclaimed T)) → is_place z place ≡ true → (the_lane w).pushed ≡ end_pushed (the_lane v).pushed place reclaimed
      → Keeps place reclaimed s t → FitsTops z w t.last_pushed.items
  last_pushed-by t place None inside pushed kept = subst (λ (x : LaneState T). FitsTops z w x.last_pushed.items) (sym kept) (last_pushed-same fits.last_pushed pushed)
  last_pushed-by t place (Some (Own whole)) inside pushed kept = subst (λ (x : LaneState T). FitsTops z w x.last_pushed.items) (sym kept.rest) (last_pushed-same fits.last_pushed pushed)
  last_pushed-by t place (Some Returned) inside pushed kept =
      subst (λ (x : List ℕ). FitsTops z w x) (sym kept.last_pushed) (last_pushed-pushed fits.last_pushed pushed (is_place-parts z place inside).0)
  last_pushed-by t place (Some Retired) inside pushed kept = subst (λ (x : LaneState T). FitsTops z w x.last_pushed.items) (sym kept) (last_pushed-same fits.last_pushed pushed)

-- the rest of the state stays
pub rows-by : {T : Type 0} (s t : LaneState T) (place : ℕ) (reclaimed : Option (Reclaimed T)) → Keeps place reclaimed s t
    → (t.rows ≡ s.rows) × (t.references ≡ s.references) × (t.shape ≡ s.shape) × (t.number ≡ s.number) × (t.pages ≡ s.pages) × (t.places ≡ s.places)
    × (t.objects.directory ≡ s.objects.directory)
rows-by s t place None kept = (ap (λ x. x.rows) kept, ap (λ x. x.references) kept, ap (λ x. x.shape) kept, ap (λ x. x.number) kept, ap (λ x. x.pages) kept, ap (λ x. x.places) kept, ap (λ x. x.objects.directory) kept)
rows-by s t place (Some (Own whole)) kept =
    (ap (λ x. x.rows) kept.rest, ap (λ x. x.references) kept.rest, ap (λ x. x.shape) kept.rest, ap (λ x. x.number) kept.rest, ap (λ x. x.pages) kept.rest, ap (λ x. x.places) kept.rest, kept.same.0)
rows-by s t place (Some Returned) kept =
    (ap (λ x. x.rows) kept.rest, ap (λ x. x.references) kept.rest, ap (λ x. x.shape) kept.rest, ap (λ x. x.number) kept.rest, ap (λ x. x.pages) kept.rest, ap (λ x. x.places) kept.rest, ap (λ x. x.objects.directory) kept.rest)
rows-by s t place (Some Retired) kept = (ap (λ x. x.rows) kept, ap (λ x. x.references) kept, ap (λ x. x.shape) kept, ap (λ x. x.number) kept, ap (λ x. x.pages) kept, ap (λ x. x.places) kept, ap (λ x. x.objects.directory) kept)

-- the own list has what was freed
abbrev more-own : FreePlaces → List Place → FreePlaces
more-own free more = record free { own = free.own ++ more }

same-own : (free : FreePlaces) (more : List Place) → more ≡ [] → free ≡ more-own free more
same-own free more none = sym (ap (λ (xs : List Place). record free { own = xs }) (ap (λ (xs : List Place). free.own ++ xs) none ∙ append-nil free.own))

module _ (z : Shape) (lane place generation : ℕ) (key-place : place_of (key_number z.tag place generation) ≡ place)
    (key-generation : generation_of (key_number z.tag place generation) ≡ generation) where
  abbrev the-key : ℕ
  the-key = key_number z.tag place generation

  freed-own : shard_of place ≡ lane → generation ≢ z.last_generation → freed z lane (acts.Reclaim lane the-key ∷ []) ≡ place_numbered place ∷ []
  freed-own own below =
      freed-one z lane the-key true (both-true (eqb (shard_of (place_of the-key)) lane) (eqb (generation_of the-key) z.last_generation)
      (eq-eqb (shard_of (place_of the-key)) lane (ap shard_of key-place ∙ own)) (ne_eqb (generation_of the-key) z.last_generation (λ is. below (sym key-generation ∙ is))))
      ∙ ap (λ (p : ℕ). place_numbered p ∷ []) key-place

  freed-retired : generation ≡ z.last_generation → freed z lane (acts.Reclaim lane the-key ∷ []) ≡ []
  freed-retired last = freed-one z lane the-key false (second-true (eqb (shard_of (place_of the-key)) lane) (eqb (generation_of the-key) z.last_generation)
      (eq-eqb (generation_of the-key) z.last_generation (key-generation ∙ last)))

-- the reclaim and the return of a place of another shard free none
freed-both : (z : Shape) (lane place l key : ℕ) → eqb (shard_of (place_of key)) lane ≡ false → freed z lane (acts.Reclaim l key ∷ acts.Home l place ∷ []) ≡ []
freed-both z lane place l key off =
    ap (λ (b : Bool). cond (b && not (eqb (generation_of key) z.last_generation)) (place_numbered (place_of key) ∷ []) []) off

-- ---- the whole

-- what the lane keeps, but its rows, fits after a call that made these acts at a place, and perhaps reclaimed it
pub record Ended {T : Type 0} (content : T → List ℕ) (room : T → ℕ) (z : Shape) (place : ℕ) (reclaimed : Option (Reclaimed T)) (made : List Act) (v w : View) (s t : LaneState T) : Type 0 where
  pub passes : Passes z (touched_by place reclaimed) made v w
  pub only : OnlyAt place made
  -- a place that wasn't reclaimed isn't given away
  pub keeps : reclaimed ≡ None → All (λ act. gives_away act place ≡ false) made
  pub moved : MovedNothing z place (the_lane v) (the_lane w) reclaimed
  pub chain : (the_lane w).chain ≡ (the_lane v).chain
  pub seat : FitsSeat z w t.number
  pub last_pushed : FitsTops z w t.last_pushed.items
  pub stores : FitsStores content room z w t.free t.pages t.objects.items
  pub rights : FitsRights z t.number t.pages.opened t.objects
  pub list : t.free ≡ more-own s.free (freed z s.number made)
  pub same : (t.rows ≡ s.rows) × (t.references ≡ s.references) × (t.shape ≡ s.shape) × (t.number ≡ s.number) × (t.pages ≡ s.pages) × (t.places ≡ s.places)
      × (t.objects.directory ≡ s.objects.directory)

module _ (z : Shape) (place generation : ℕ) (shape : IsShape z) (inside : is_place z place ≡ true) where
  small : place < 16777216
  small = (place_bounds z shape place inside).number

  pub key-place : place_of (key_number z.tag place generation) ≡ place
  key-place = place_of-key_number z.tag place generation small

  -- the place that a lane reclaimed at its end
  module _ (v w : View) (first : List Act) (acted : Acted z (first ++ reclaim z (the_lane v).lane place generation ∷ []) v w) where
    last-act : acts_of (the_lane v).lane w.seen ≡ ((the_lane v).mine ++ first) ++ acts.Reclaim (the_lane v).lane (key_number z.tag place generation) ∷ []
    last-act = ap (λ (l : ℕ). acts_of l w.seen) (sym acted.lane)
        ∙ (sym acted.own ∙ (acted.mine ∙ sym (append_assoc (the_lane v).mine first (reclaim z (the_lane v).lane place generation ∷ []))))

    key-inside : is_key z (key_number z.tag place generation) ≡ true
    key-inside = reclaimed-key z (the_lane v).lane (key_number z.tag place generation) w.seen ((the_lane v).mine ++ first) acted.legal last-act

    pub key-generation : generation_of (key_number z.tag place generation) ≡ generation
    key-generation = packed-generation z place generation small (key_parts z (key_number z.tag place generation) key-inside).tag

    pub now-with : generation ≢ z.last_generation → (pool_after z w.seen place).phase ≡ with (the_lane w).lane
    now-with below =
        subst (λ (p : ℕ). (pool_after z w.seen p).phase ≡ with (the_lane w).lane) key-place
        (reclaimed-with z (the_lane v).lane (key_number z.tag place generation) w.seen ((the_lane v).mine ++ first) acted.legal last-act (λ is. below (sym key-generation ∙ is))
        ∙ ap with (sym acted.lane))

module _ {T : Type 0} {content : T → List ℕ} {room : T → ℕ} {z : Shape} {v : View} {s : LaneState T} (fits : FitsBeside content room z v s) (w : View) where
  -- what is kept of a reclaimed place
  keepable : (place generation : ℕ) (first : List Act) (reclaimed : Option (Reclaimed T)) → is_place z place ≡ true
      → Acted z (first ++ end_acts z (the_lane v).lane place generation reclaimed) v w → FitsGeneration z generation reclaimed
      → IfSome reclaimed (IsReclaimed content room z place s.number w) → IsKeepable content room z w place reclaimed
  keepable place generation first None inside acted below told = tt
  keepable place generation first (Some (Own whole)) inside acted below told = (
    told.0 ∙ (fits.seat.number_is ∙ sym acted.lane),
    told.3,
    record { with_lane = now-with z place generation fits.seat.shape inside v w first acted below; emptied = told.2; room = told.4 },
  )
  keepable place generation first (Some Returned) inside acted below told = tt
  keepable place generation first (Some Retired) inside acted below told = tt

  -- what the own list gains
  list-by : (t : LaneState T) (place generation : ℕ) (first : List Act) (reclaimed : Option (Reclaimed T)) → is_place z place ≡ true
      → Acted z (first ++ end_acts z (the_lane v).lane place generation reclaimed) v w → FitsGeneration z generation reclaimed
      → IfSome reclaimed (IsReclaimed content room z place s.number w) → freed z s.number first ≡ [] → Keeps place reclaimed s t
      → t.free ≡ more-own s.free (freed z s.number (first ++ end_acts z (the_lane v).lane place generation reclaimed))
  list-by t place generation first None inside acted below told none kept =
      ap (λ x. x.free) kept ∙ same-own s.free (freed z s.number (first ++ [])) (freed-append z s.number first [] ∙ (append-nil (freed z s.number first) ∙ none))
  list-by t place generation first (Some (Own whole)) inside acted below told none kept =
      let one = freed-own z s.number place generation (key-place z place generation fits.seat.shape inside)
      (key-generation z place generation fits.seat.shape inside v w first acted) told.0 below in
      kept.list ∙ sym (ap (λ (xs : List Place). more-own s.free xs) (freed-append z s.number first (reclaim z (the_lane v).lane place generation ∷ [])
      ∙ (ap (λ (xs : List Place). xs ++ freed z s.number (reclaim z (the_lane v).lane place generation ∷ [])) none ∙ one)))
  list-by t place generation first (Some Returned) inside acted below told none kept =
      let returned : Option (Reclaimed T) = Some Returned in
      let one = freed-both z s.number place (the_lane v).lane (key_number z.tag place generation)
      (ne_eqb (shard_of (place_of (key_number z.tag place generation))) s.number
      (λ is. told (sym (ap shard_of (key-place z place generation fits.seat.shape inside)) ∙ is))) in
      ap (λ x. x.free) kept.rest ∙ same-own s.free (freed z s.number (first ++ end_acts z (the_lane v).lane place generation returned))
      (freed-append z s.number first (end_acts z (the_lane v).lane place generation returned)
      ∙ (ap (λ (xs : List Place). xs ++ freed z s.number (end_acts z (the_lane v).lane place generation returned)) none ∙ one))
  list-by t place generation first (Some Retired) inside acted below told none kept =
      let one = freed-retired z s.number place generation (key-place z place generation fits.seat.shape inside)
      (key-generation z place generation fits.seat.shape inside v w first acted) below in
      ap (λ x. x.free) kept ∙ same-own s.free (freed z s.number (first ++ reclaim z (the_lane v).lane place generation ∷ []))
      (freed-append z s.number first (reclaim z (the_lane v).lane place generation ∷ [])
      ∙ (ap (λ (xs : List Place). xs ++ freed z s.number (reclaim z (the_lane v).lane place generation ∷ [])) none ∙ one))

  -- its acts leave no place of another shard with the lane
  alone-by : (place generation : ℕ) (first : List Act) (reclaimed : Option (Reclaimed T)) → is_place z place ≡ true
      → Acted z (first ++ end_acts z (the_lane v).lane place generation reclaimed) v w → FitsGeneration z generation reclaimed
      → IfSome reclaimed (IsReclaimed content room z place s.number w) → NoneAbroad z s.number (end_acts z (the_lane v).lane place generation reclaimed)
  alone-by place generation first None inside acted below told = λ p within other. refl
  alone-by place generation first (Some (Own whole)) inside acted below told =
      abroad-own z s.number (the_lane v).lane (key_number z.tag place generation)
      (ap shard_of (key-place z place generation fits.seat.shape inside) ∙ told.0)
  alone-by place generation first (Some Returned) inside acted below told =
      abroad-returned z s.number (the_lane v).lane place (key_number z.tag place generation)
      (key-place z place generation fits.seat.shape inside)
  alone-by place generation first (Some Retired) inside acted below told =
      abroad-retired z s.number (the_lane v).lane (key_number z.tag place generation)
      (key-generation z place generation fits.seat.shape inside v w first acted ∙ below)

  -- the places that the lane then has retired
  retires-by : (place generation : ℕ) (first : List Act) (reclaimed : Option (Reclaimed T)) → is_place z place ≡ true
      → Acted z (first ++ end_acts z (the_lane v).lane place generation reclaimed) v w → FitsGeneration z generation reclaimed
      → IfSome reclaimed (IsReclaimed content room z place s.number w) → OnlyAt place (first ++ end_acts z (the_lane v).lane place generation reclaimed)
      → ((p : ℕ) (was : Bool) → has_retired z p first was ≡ was) → Retires z (touched_by place reclaimed) (first ++ end_acts z (the_lane v).lane place generation reclaimed) v w
  retires-by place generation first None inside acted below told only still = λ p within is.
      let was : Bool = has_retired z p (the_lane v).mine false in
      inl (refl, sym (still p was) ∙ (sym (ap (λ (xs : List Act). has_retired z p xs was) (append-nil first)) ∙ is))
  retires-by place generation first (Some (Own whole)) inside acted below told only still =
      retires-else z place (first ++ reclaim z (the_lane v).lane place generation ∷ []) v w only (λ is.
      absurd (reclaimed-unretired z place (the_lane v).lane (key_number z.tag place generation) first (has_retired z place (the_lane v).mine false)
      (key-place z place generation fits.seat.shape inside) (λ last. below (sym (key-generation z place generation fits.seat.shape inside v w first acted) ∙ last)) is))
  retires-by place generation first (Some Returned) inside acted below told only still =
      retires-else z place (first ++ reclaim z (the_lane v).lane place generation ∷ acts.Home (the_lane v).lane place ∷ []) v w only (λ is.
      absurd (returned-unretired z place (the_lane v).lane (the_lane v).lane (key_number z.tag place generation) first (has_retired z place (the_lane v).mine false) is))
  retires-by place generation first (Some Retired) inside acted below told only still =
      retires-else z place (first ++ reclaim z (the_lane v).lane place generation ∷ []) v w only (λ is. told)

  -- the places that it never opened
  rights-by : (t : LaneState T) (place : ℕ) (reclaimed : Option (Reclaimed T)) → is_place z place ≡ true → MovedNothing z place (the_lane v) (the_lane w) reclaimed
      → IfSome reclaimed (IsReclaimed content room z place s.number w) → Keeps place reclaimed s t → FitsRights z t.number t.pages.opened t.objects
  rights-by t place None inside moved told kept = subst (λ (x : LaneState T). FitsRights z x.number x.pages.opened x.objects) (sym kept) fits.rights
  rights-by t place (Some (Own whole)) inside moved told kept =
      let apart = alone-apart fits.stores (some-lane fits.seat) place moved in
      subst (λ (x : LaneState T). FitsRights z x.number x.pages.opened x.objects) (sym kept.rest)
      (rights-set {new = t.objects} fits.rights fits.seat.shape place true inside told.0 (apart.opened inside (told.0 ∙ fits.seat.number_is)) kept.same.1
      (kept.rights ∙ ap (λ (y : Shape). slice_set s.objects.rights (index_of y place) true) fits.shape_is))
  rights-by t place (Some Returned) inside moved told kept = subst (λ (x : LaneState T). FitsRights z x.number x.pages.opened x.objects) (sym kept.rest) fits.rights
  rights-by t place (Some Retired) inside moved told kept = subst (λ (x : LaneState T). FitsRights z x.number x.pages.opened x.objects) (sym kept) fits.rights

-- where no place was reclaimed, nothing is given away
given-none : {T : Type 0} (z : Shape) (lane place generation : ℕ) (first : List Act) (reclaimed : Option (Reclaimed T)) → reclaimed ≡ None
    → All (λ act. gives_away act place ≡ false) first → All (λ act. gives_away act place ≡ false) (first ++ end_acts z lane place generation reclaimed)
given-none z lane place generation first None gone keeps = subst (λ (xs : List Act). All (λ act. gives_away act place ≡ false) xs) (sym (append-nil first)) keeps
given-none z lane place generation first (Some reclaimed) gone keeps = absurd (cc gone)

-- the stores once what became of the place was kept
stores-after : {T : Type 0} {content : T → List ℕ} {room : T → ℕ} {z : Shape} {v : View} {s : LaneState T} → FitsBeside content room z v s → (w : View) (t : LaneState T) (place generation : ℕ)
    (first : List Act) (reclaimed : Option (Reclaimed T)) → is_place z place ≡ true
    → Acted z (first ++ end_acts z (the_lane v).lane place generation reclaimed) v w → FitsGeneration z generation reclaimed → MovedNothing z place (the_lane v) (the_lane w) reclaimed → IfSome reclaimed (IsReclaimed content room z place s.number w)
    → FitsShelf content room z w s → (the_lane w).chain ≡ (the_lane v).chain → Keeps place reclaimed s t → FitsShelf content room z w t
stores-after {content = content} {room = room} {z = z} fits w t place generation first None inside acted below moved told stores chain kept =
    subst (λ x. FitsShelf content room z w x) (sym kept) stores
stores-after {z = z} {v = v} {s = s} fits w t place generation first (Some reclaimed) inside acted below moved told stores chain kept =
    let apart = alone-apart fits.stores (some-lane fits.seat) place moved in
    stores-reclaimed s t (Some reclaimed) fits.shape_is inside stores (record {
      unlisted = apart.unlisted;
      opened = λ there mine_so. apart.opened there (mine_so ∙ acted.lane);
      unchained = ap (λ (ps : List ℕ). has ps place) chain ∙ apart.unchained;
    })
    (keepable fits w place generation first (Some reclaimed) inside acted below told) kept

-- what a call at a place left
pub ended-beside : {S T : Type 0} {content : T → List ℕ} {room : T → ℕ} {z : Shape} {place steps looks : ℕ} {made : List Act} {a b : Me S View} {s t : LaneState T}
    (first : List Act) (reclaimed : Option (Reclaimed T)) → FitsBeside content room z a.0 s → Did z place made steps looks a b → IsIdle b.0 → (acts_so : EndsWithActs z place first a.0 b.0 reclaimed)
    → IfSome reclaimed (IsReclaimed content room z place s.number b.0) → is_place z place ≡ true → OnlyAt place first → All (λ act. gives_away act place ≡ false) first
    → freed z s.number first ≡ [] → NoneAbroad z s.number first
    → ((p : ℕ) (was : Bool) → has_retired z p first was ≡ was) → Keeps place reclaimed s t
    → Ended content room z place reclaimed (first ++ end_acts z (the_lane a.0).lane place acts_so.0.0 reclaimed) a.0 b.0 s t
ended-beside {content = content} {room = room} {z = z} {place = place} {made = made} {a = a} {b = b} {s = s} {t = t} first reclaimed fits did idle acts_so told inside only keeps none alone still kept =
    let lane : ℕ = (the_lane a.0).lane in
    let all : List Act = first ++ end_acts z lane place acts_so.0.0 reclaimed in
    let same : made ≡ all = append_cancel_left (the_lane a.0).mine made all (sym did.acted.mine ∙ acts_so.0.1) in
    let passes = subst (λ (xs : List Act). Passes z (touched_by place reclaimed) xs a.0 b.0) same (passes-by reclaimed did acts_so.2) in
    let only_all : OnlyAt place all = onlyat-append place first (end_acts z lane place acts_so.0.0 reclaimed) only (onlyat-end z lane place acts_so.0.0 reclaimed fits.seat.shape inside) in
    let stores = stores-by fits reclaimed passes did.chain acts_so.2 only_all (λ gone. given-none z lane place acts_so.0.0 first reclaimed gone keeps) in
    let rest = rows-by s t place reclaimed kept in record {
      passes = passes;
      only = only_all;
      keeps = λ gone. given-none z lane place acts_so.0.0 first reclaimed gone keeps;
      moved = acts_so.2;
      chain = did.chain;
      seat = subst (λ (n : ℕ). FitsSeat z b.0 n) (sym rest.3) (seat-passes fits.seat passes idle
          (abroad-append z s.number first (end_acts z lane place acts_so.0.0 reclaimed) alone (alone-by fits b.0 place acts_so.0.0 first reclaimed inside passes.acted acts_so.0.2 told))
          (retires-by fits b.0 place acts_so.0.0 first reclaimed inside passes.acted acts_so.0.2 told only_all still));
      last_pushed = last_pushed-by fits t place reclaimed inside acts_so.1 kept;
      stores = stores-after fits b.0 t place acts_so.0.0 first reclaimed inside passes.acted acts_so.0.2 acts_so.2 told stores did.chain kept;
      rights = rights-by fits b.0 t place reclaimed inside acts_so.2 told kept;
      list = list-by fits b.0 t place acts_so.0.0 first reclaimed inside passes.acted acts_so.0.2 told none kept;
      same = rest;
    }

-- and where the rows fit too
pub ended : {S T : Type 0} {content : T → List ℕ} {room : T → ℕ} {z : Shape} {place steps looks : ℕ} {made : List Act} {a b : Me S View} {s t : LaneState T}
    (first : List Act) (reclaimed : Option (Reclaimed T)) → Fits content room z a.0 s → Did z place made steps looks a b → IsIdle b.0 → (acts_so : EndsWithActs z place first a.0 b.0 reclaimed)
    → IfSome reclaimed (IsReclaimed content room z place s.number b.0) → is_place z place ≡ true → OnlyAt place first → All (λ act. gives_away act place ≡ false) first
    → freed z s.number first ≡ [] → NoneAbroad z s.number first
    → ((p : ℕ) (was : Bool) → has_retired z p first was ≡ was) → Keeps place reclaimed s t
    → Ended content room z place reclaimed (first ++ end_acts z (the_lane a.0).lane place acts_so.0.0 reclaimed) a.0 b.0 s t
ended first reclaimed fits did idle acts_so told inside only keeps none alone still kept =
    ended-beside first reclaimed (fits-beside fits) did idle acts_so told inside only keeps none alone still kept

-- an object that is answered may be kept
pub beside-away : {T : Type 0} {content : T → List ℕ} {room : T → ℕ} {z : Shape} {v : View} {s : LaneState T} → FitsBeside content room z v s → (w : View) (place : ℕ)
    (reclaimed : Option (Reclaimed T)) → is_place z place ≡ true → MovedNothing z place (the_lane v) (the_lane w) reclaimed
    → IfSome reclaimed (IsReclaimed content room z place s.number w) → (whole : Whole T) → reclaimed ≡ Some (Own whole) → IsAway s.free (place_numbered place)
beside-away fits w place None inside moved told whole is = absurd (cc is)
beside-away fits w place (Some (Own object)) inside moved told whole is =
    apart-away fits.stores place inside (told.0 ∙ fits.seat.number_is) (alone-apart fits.stores (some-lane fits.seat) place moved)
beside-away fits w place (Some Returned) inside moved told whole is = absurd (cc is)
beside-away fits w place (Some Retired) inside moved told whole is = absurd (cc is)

pub own-away : {T : Type 0} {content : T → List ℕ} {room : T → ℕ} {z : Shape} {v : View} {s : LaneState T} → Fits content room z v s → (w : View) (place : ℕ)
    (reclaimed : Option (Reclaimed T)) → is_place z place ≡ true → MovedNothing z place (the_lane v) (the_lane w) reclaimed
    → IfSome reclaimed (IsReclaimed content room z place s.number w) → (whole : Whole T) → reclaimed ≡ Some (Own whole) → IsAway s.free (place_numbered place)
own-away fits = beside-away (fits-beside fits)

-- ---- the rows

-- acts one after another, for references
pub made-append : (made more : List Act) (key n : ℕ) → references_made (made ++ more) key n ≡ references_made more key (references_made made key n)
made-append [] more key n = refl
made-append (act ∷ made) more key n = made-append made more key (references_with act key n)

-- where the lane has references to a place, that wasn't reclaimed
pub untouched-held : {T : Type 0} {content : T → List ℕ} {room : T → ℕ} {z : Shape} {v : View} {place generation : ℕ} {share : Share T} → FitsSeat z v (the_lane v).lane
    → IsHeld content room z v place generation share → (w : View) (p : ℕ) (reclaimed : Option (Reclaimed T)) → MovedNothing z p (the_lane v) (the_lane w) reclaimed
    → touched_by p reclaimed place ≡ false
untouched-held seat held w p None moved = refl
untouched-held {z = z} {v = v} {place = place} seat held w p (Some reclaimed) moved = ne_eqb place p (λ here.
    let left : status_of (the_lane v) place (the_lane v).lane ≡ Untouched = ap (λ (q : ℕ). status_of (the_lane v) q (the_lane v).lane) here ∙ moved (the_lane v).lane (let low = seat.below in omega (arith, low)) in
    let bad : Emptied ≡ Untouched = sym held.emptied ∙ left in cc bad)

-- the rows fit where a call made no references, and gave none back
pub rows-ended : {T : Type 0} {content : T → List ℕ} {room : T → ℕ} {z : Shape} {v w : View} {s : LaneState T} (place lane generation : ℕ) (first : List Act)
    (reclaimed : Option (Reclaimed T)) → Fits content room z v s → MovedNothing z place (the_lane v) (the_lane w) reclaimed
    → Passes z (touched_by place reclaimed) (first ++ end_acts z lane place generation reclaimed) v w
    → ((key n : ℕ) → references_made first key n ≡ n) → ((n : ℕ) → held_after first n ≡ n) → FitsRows content room z w s.rows.items s.references
rows-ended {content = content} {room = room} {z = z} {v = v} {w = w} {s = s} place lane generation first reclaimed fits moved passes refs held =
    let seat : FitsSeat z v (the_lane v).lane = subst (λ (n : ℕ). FitsSeat z v n) fits.seat.number_is fits.seat in
    rows-pass passes fits.seat.own fits.rows
    (λ p row inside is fit. (
      (λ some. let h = fit.held some in untouched-held seat h.2 w place reclaimed moved),
      (λ key n here. made-append first (end_acts z lane place generation reclaimed) key n ∙ (ap (references_made (end_acts z lane place generation reclaimed) key) (refs key n)
          ∙ end-refs z lane place generation reclaimed key n)),
    ))
    (held-append first (end_acts z lane place generation reclaimed) s.references ∙ (ap (held_after (end_acts z lane place generation reclaimed)) (held s.references)
    ∙ end-held z lane place generation reclaimed s.references))
