-- What a lane is once the first place of its list is taken off it, or its next page is opened.
use Rattle.std.proofs.Common.{◌≡◌, ℕ, ◌+◌, ◌<◌, ◌≤◌, false, zero, suc, List, [], ◌∷◌, Option, Some, None, refl, ap, sym, ◌∙◌, subst, arith}
use Rattle.std.specs.Prelude.{slice_get, slice_set}
use Rattle.std.specs.List.{All, Contains}
use Rattle.std.proofs.lemmas.List.Elements.{All-nil, All-cons, All-contains, Contains-append_right}
use denote.RawPtr.{Ptr}
use Rattle.atomic_table.specs.Seated.{TableId}
use Rattle.keybits.specs.declared.place.Place.{Place}
use Rattle.keybits.specs.Places.{shard_of, page_of, number_of}
use Rattle.keybits.specs.Shapes.{index_of, page_size}
use Rattle.keybits.specs.Keys.{place_of}
use Rattle.keybits.proofs.PlaceLemmas.{page_of-place_at}
use Rattle.keybits.proofs.ShapeLemmas.{page_size-le}
use Rattle.freelists.specs.Shards.{ShardPages, IsOwn}
use Rattle.freelists.specs.Queues.{FreePlaces, AreFree, IsAway}
use Rattle.freelists.proofs.ShardLemmas.{OwnNumber, same_own, shard_of-number}
use Rattle.seqpool.specs.Pool.{with, has}
use Rattle.poolsteps.specs.declared.view.View.{View}
use Rattle.poolsteps.specs.Views.{the_lane}
use Rattle.shardpool.specs.declared.pool.LaneState.{LaneState}
use Rattle.shardpool.specs.Tokens.{LaneOf, FillingOf}
use Rattle.shardpool.specs.Lanes.{Made}
use Rattle.shardpool.specs.Places.{IsBlank}
use Rattle.poolsteps.specs.Objects.{ObjectsOf}
use Rattle.shardpool.specs.LaneStates.{FitsStores, FitsRights, Fits}
use Rattle.shardpool.proofs.free.Rights.{rights-set, rights-opened}
use Rattle.shardpool.proofs.references.Standings.{standing-same}
use Rattle.shardpool.specs.Stores.{TakesOwn}
use Rattle.shardpool.specs.Creates.{page_slots, IsLoose, Pops}
use Rattle.shardpool.specs.Openings.{OpensNext}
use Rattle.shardpool.proofs.free.Stores.{own-inside, stores-popped, first-listed, first-in}
use Rattle.shardpool.proofs.free.Known.{listed-unchained}
use Rattle.shardpool.proofs.frame.LaneFacts.{lane_of}

-- a filling stays one where its place goes neither to the list nor to an unopened page
pub made-stays : {T : Type 0} (old : LaneOf) (free : FreePlaces) (pages : ShardPages) (filling : FillingOf T)
    → ((at : Place) → Contains free.own at → number_of at ≡ place_of filling.key → ⊥) → old.pages.opened ≤ pages.opened → Made old filling
    → Made (record old { free = free; pages = pages }) filling
made-stays old free pages filling unlisted opened made =
    let was = made.place in record {
      table = made.table;
      directory = made.directory;
      place = record {
        inside = was.inside;
        own = was.own;
        opened = let low = was.opened in omega (arith, low, opened);
        with_lane = was.with_lane;
        unlisted = unlisted;
        unchained = was.unchained;
      };
      start = made.start;
      may = made.may;
      emptied = made.emptied;
    }

-- the places of a page's slots are of the page
slots-page : (shard page slot n : ℕ) → page < 16 → slot + n ≤ 4096 → All (λ at. page_of (number_of at) ≡ page) (page_slots shard page slot n)
slots-page shard page slot zero low small = All-nil (λ at. page_of (number_of at) ≡ page)
slots-page shard page slot (suc n) low small =
    let first : Place = record { shard = shard; page = page; slot = slot } in
    All-cons (λ at. page_of (number_of at) ≡ page) first (page_slots shard page (slot + 1) n)
    (page_of-place_at shard page slot low (omega (arith, small))) (slots-page shard page (slot + 1) n low (omega (arith, small)))

module _ {T : Type 0} {content : T → List ℕ} {room : T → ℕ} {v : View} {s : LaneState T} (fits : Fits content room s.shape v s) where
  lane-low : s.free.shard < s.shape.lanes
  lane-low = let same = fits.stores.lists.0 in let number = fits.seat.number_is in let low = fits.seat.below in omega (arith, same, number, low)

  -- each listed place has its object
  pub listed-object : (place : Place) → Contains s.free.own place → (object : T) × (slice_get s.objects.items (index_of s.shape (number_of place)) ≡ Some (Some object))
  listed-object place within = let was = fits.stores.listed place within in (was.object, was.stands)

module _ {T : Type 0} {content : T → List ℕ} {room : T → ℕ} {v : View} {s t : LaneState T} (fits : Fits content room s.shape v s) where
  module _ {first : Place} {object : T} (takes : TakesOwn first object s t) where
    -- the list without its first place
    abbrev shorter : FreePlaces
    shorter = record s.free { own = t.free.own }

    -- it is a place of the pool
    pub popped-inside : OwnNumber s.shape (number_of first) first
    popped-inside = own-inside s.shape s.free first fits.seat.shape (lane-low fits) fits.stores.lists.1 (subst (λ (f : FreePlaces). IsOwn f.shard f.shape first) takes.own takes.away.own)

    -- of the lane's shard
    popped-own : shard_of (number_of first) ≡ (the_lane v).lane
    popped-own =
        let ok = takes.free in
        shard_of-number t.free.shape t.free.shard first ok.limits takes.away.own ∙ (ap (λ (f : FreePlaces). f.shard) takes.own ∙ fits.stores.lists.0)

    -- what is left fits
    pub popped-fits : Fits content room t.shape v t
    popped-fits =
        let mid : LaneState T = record s { objects = t.objects; free = t.free } in
        let stores : FitsStores content room s.shape v shorter s.pages (slice_set s.objects.items (index_of s.shape (number_of first)) None)
        = stores-popped fits.stores {p = first} {rest = t.free.own} None takes.list (subst AreFree takes.own takes.free) (subst (λ (f : FreePlaces). IsAway f first) takes.own takes.away) in
        let now : Fits content room s.shape v mid = record {
          shape_is = fits.shape_is;
          placed = fits.placed;
          seat = fits.seat;
          last_pushed = fits.last_pushed;
          rows = fits.rows;
          stores = subst (λ (xs : List (Option T)). FitsStores content room s.shape v t.free s.pages xs) (sym (ap (λ o. o.items) takes.objects))
              (subst (λ (f : FreePlaces). FitsStores content room s.shape v f s.pages (slice_set s.objects.items (index_of s.shape (number_of first)) None)) (sym takes.own) stores);
          rights = subst (λ (o : ObjectsOf T). FitsRights s.shape s.number s.pages.opened o) (sym takes.objects)
              (rights-set fits.rights fits.seat.shape (number_of first) false popped-inside.is_in
              (popped-own ∙ sym fits.seat.number_is) (first-listed fits.stores takes.list).opened_is refl refl);
          standing = standing-same refl (ap (λ o. o.directory) takes.objects) fits.standing;
        } in
        subst (λ (x : LaneState T). Fits content room x.shape v x) (sym takes.rest) now

    module _ (table : TableId) where
      -- the lane is as before but for its list
      pub popped-lane : lane_of table v t ≡ record (lane_of table v s) { free = shorter }
      popped-lane = ap (λ (x : LaneState T). lane_of table v x) takes.rest ∙ (λ i. record (lane_of table v s) { directory = (takes.objects i).directory; free = takes.own i })

      popped-chain : has (the_lane v).chain (number_of first) ≡ false
      popped-chain = listed-unchained table fits first (first-in first t.free.own s.free.own takes.list)

      -- the place is in nobody's hands
      pub popped-loose : IsLoose content room (lane_of table v t) (number_of first) object
      popped-loose =
          let listed = first-listed fits.stores takes.list in
          let same : listed.object ≡ object = let e = sym listed.stands ∙ takes.stood in cc e in
          let ok = takes.free in
          subst (λ (lane : LaneOf). IsLoose content room lane (number_of first) object) (sym popped-lane) (record {
            filling = record {
              inside = popped-inside.is_in;
              own = popped-own ∙ sym fits.seat.number_is;
              opened = listed.opened_is;
              with_lane = listed.blank.with_lane ∙ ap with (sym fits.seat.number_is);
              unlisted = λ at within is. takes.away.unlisted (subst (λ (p : Place). Contains t.free.own p)
                  (same_own t.free.shape t.free.shard at first ok.limits (All-contains (IsOwn t.free.shard t.free.shape) t.free.own at ok.own.inside within) takes.away.own is) within);
              unchained = popped-chain;
            };
            blank = subst (λ (x : T). IsBlank s.shape v (number_of first) (room x)) same listed.blank;
            empty = ap content (sym same) ∙ listed.empty;
          })

      -- so the first place was popped
      pub popped : Pops content room (lane_of table v s) (lane_of table v t) (number_of first) object
      popped = (first, refl, takes.list, popped-lane, popped-loose)

      -- and the fillings stay
      pub popped-fillings : (filling : FillingOf T) → Made (lane_of table v s) filling → Made (lane_of table v t) filling
      popped-fillings filling made = subst (λ (lane : LaneOf). Made lane filling) (sym popped-lane)
          (made-stays (lane_of table v s) shorter s.pages filling
          (λ at within is. made.place.unlisted at (subst (λ (ps : List Place). Contains ps at) (sym takes.list) (Contains-append_right (first ∷ []) t.free.own at within)) is)
          (omega arith) made)

  -- the fillings stay when a page is opened
  pub opened-fillings : (table : TableId) → s.pages.opened < s.shape.pages → OpensNext content room s t → (filling : FillingOf T)
      → Made (lane_of table v s) filling → Made (lane_of table v t) filling
  opened-fillings table low opens filling made =
      let page : ℕ = s.pages.opened in
      let size : ℕ = page_size s.shape page in
      let few : s.shape.pages ≤ 16 = fits.seat.shape.pages.1 in
      let small = page_size-le s.shape page in
      subst (λ (lane : LaneOf). Made lane filling) (sym (ap (λ (x : LaneState T). lane_of table v x) opens.rest ∙ ap (λ (p : Ptr). record (lane_of table v s) { directory = p; free = t.free; pages = t.pages }) opens.same.0))
      (made-stays (lane_of table v s) t.free t.pages filling
      (λ at within is.
      let here : page_of (number_of at) ≡ page = All-contains (λ p. page_of (number_of p) ≡ page) (page_slots s.number page 0 size) at
      (slots-page s.number page 0 size (omega (arith, few, low)) (omega (arith, small))) (subst (λ (f : FreePlaces). Contains f.own at) opens.list within) in
      let there : page_of (number_of at) ≡ page_of (place_of filling.key) = ap page_of is in
      let opened = made.place.opened in absurd (omega (arith, here, there, opened)))
      (let more = ap (λ (p : ShardPages). p.opened) opens.pages in omega (arith, more)) made)

-- what the lane keeps fits when its next page is opened
pub opened-fits : {T : Type 0} {content : T → List ℕ} {room : T → ℕ} {v : View} {s t : LaneState T} → Fits content room s.shape v s → OpensNext content room s t
    → Fits content room t.shape v t
opened-fits {T = T} {content = content} {room = room} {v = v} {s = s} {t = t} fits opens =
    let mid : LaneState T = record s { free = t.free; pages = t.pages; objects = t.objects } in
    let now : Fits content room s.shape v mid = record {
      shape_is = fits.shape_is;
      placed = fits.placed;
      seat = fits.seat;
      last_pushed = fits.last_pushed;
      rows = fits.rows;
      stores = opens.fits v fits.stores;
      rights = subst (λ (n : ℕ). FitsRights s.shape s.number n t.objects) (sym (ap (λ (p : ShardPages). p.opened) opens.pages)) (rights-opened fits.rights opens.same.1 opens.wide opens.rights);
      standing = standing-same refl opens.same.0 fits.standing;
    } in
    subst (λ (x : LaneState T). Fits content room x.shape v x) (sym opens.rest) now
