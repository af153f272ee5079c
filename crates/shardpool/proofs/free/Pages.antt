-- How the places of a page that is opened go on the list.
use Rattle.std.proofs.Common.{◌≡◌, ◌≢◌, ℕ, zero, suc, ◌+◌, ◌<◌, ◌≤◌, true, List, [], ◌∷◌, ◌++◌, length, Option, Some, None, refl, ap, sym, ◌∙◌, subst, arith, length-set}
use mathlib.Core.Logic.{dite}
use native.Mathlib.Decide.{ℕ_discrete}
use Rattle.std.specs.Prelude.{Bool, IsSome, IfSome, slice_get, slice_set}
use Rattle.std.proofs.lemmas.Option.{slice_get_within}
use Rattle.std.specs.List.{All, Contains}
use Rattle.std.proofs.lemmas.List.Elements.{All-nil, All-cons, All-head, All-tail, All-contains}
use Rattle.keybits.specs.declared.place.Place.{Place}
use Rattle.keybits.specs.declared.shape.Shape.{Shape}
use Rattle.keybits.specs.Places.{shard_of, page_of, slot_of, number_of, place_at}
use Rattle.keybits.specs.Shapes.{IsShape, is_place, index_of, page_size, shard_places}
use Rattle.keybits.proofs.PlaceLemmas.{shard_of-place_at, page_of-place_at, slot_of-place_at}
use Rattle.keybits.proofs.ShapeLemmas.{page_size-le, is_place-place_at}
use Rattle.freelists.specs.Shards.{ShardPages, IsOwn, shape_of, place_numbered}
use Rattle.freelists.specs.Queues.{FreePlaces, AreFree, IsAway}
use Rattle.freelists.proofs.ShardLemmas.{own_from_number, own_in_shape}
use Rattle.poolsteps.specs.declared.view.View.{View}
use Rattle.poolsteps.specs.Views.{the_lane}
use Rattle.shardpool.specs.declared.pool.LaneState.{LaneState}
use Rattle.shardpool.specs.Places.{IsBlank}
use Rattle.shardpool.specs.LaneStates.{FitsStores}
use Rattle.shardpool.specs.Stores.{KeepsOwn, SameRows}
use Rattle.shardpool.specs.Creates.{page_slots}
use Rattle.shardpool.specs.Openings.{OpensNext}
use Rattle.shardpool.proofs.free.Stores.{stands-here, stands-else, FitsShelf, numbered, blank-wider, stores-opened, stores-kept}

-- ---- the slots of a page

-- one slot more is the next
slots-more : (shard page slot n : ℕ) → page_slots shard page slot (suc n) ≡ page_slots shard page slot n ++ record { shard = shard; page = page; slot = slot + n } ∷ []
slots-more shard page slot zero =
    let none : slot ≡ slot + 0 = omega arith in ap (λ (s : ℕ). let p : Place = record { shard = shard; page = page; slot = s } in p ∷ []) none
slots-more shard page slot (suc n) =
    let first : Place = record { shard = shard; page = page; slot = slot } in
    let next : slot + 1 + n ≡ slot + suc n = omega arith in
    ap (λ (ps : List Place). first ∷ ps)
    (slots-more shard page (slot + 1) n
    ∙ ap (λ (s : ℕ). page_slots shard page (slot + 1) n ++ record { shard = shard; page = page; slot = s } ∷ []) next)

slots-length : (shard page slot n : ℕ) → length (page_slots shard page slot n) ≡ n
slots-length shard page slot zero = refl
slots-length shard page slot (suc n) = let rest = slots-length shard page (slot + 1) n in omega (arith, rest)

-- they have lower numbers than the slots behind them
slots-below : (shard page slot n bound : ℕ) → slot + n ≤ bound → All (λ at. number_of at < place_at shard page bound) (page_slots shard page slot n)
slots-below shard page slot zero bound le = All-nil (λ at. number_of at < place_at shard page bound)
slots-below shard page slot (suc n) bound le =
    let first : Place = record { shard = shard; page = page; slot = slot } in
    All-cons (λ at. number_of at < place_at shard page bound) first (page_slots shard page (slot + 1) n)
    (omega (arith, le)) (slots-below shard page (slot + 1) n bound (omega (arith, le)))

-- the lowest unopened page was opened
pub page-opened : (page : Option ℕ) (old new : ShardPages) → (old.opened < old.shape.pages → IsSome page) → IfSome page (λ n. n ≡ old.opened)
    → IfSome page (λ n. new ≡ record old { opened = n + 1 }) → old.opened < old.shape.pages → new ≡ record old { opened = old.opened + 1 }
page-opened None old new some lowest is low = absurd (cc (some low))
page-opened (Some n) old new some lowest is low = is ∙ ap (λ (m : ℕ). record old { opened = m + 1 }) lowest

-- what is true in a list stays so where another is made true
stays-true : (xs : List Bool) (i j : ℕ) → slice_get xs j ≡ Some true → slice_get (slice_set xs i true) j ≡ Some true
stays-true xs i j is = dite (ℕ_discrete j i)
    (λ (here : j ≡ i). subst (λ (n : ℕ). slice_get (slice_set xs i true) n ≡ Some true) (sym here)
    (stands-here xs i true (subst (λ (n : ℕ). n < length xs) here (slice_get_within xs j true is))))
    (λ (other : j ≢ i). stands-else xs i true j true other is)

-- ---- the loop

-- a page may be opened: one is left, and nothing is free
pub record MayOpen {T : Type 0} (old : LaneState T) : Type 0 where
  pub shape : IsShape old.shape
  pub lane : old.number < old.shape.lanes
  pub shard : old.free.shard ≡ old.number
  pub list : old.free.shape ≡ shape_of old.shape.first_page old.shape.pages
  pub unopened : old.pages.opened < old.shape.pages
  pub chain : old.free.chain ≡ None

module _ {T : Type 0} (content : T → List ℕ) (room : T → ℕ) (old : LaneState T) where
  -- the page is opened, its first slots are on the list, and these objects are left for the others
  pub record OpensSlots (left : List T) (now : LaneState T) : Type 0 where
    pub slots : ℕ
    pub list : now.free ≡ record old.free { own = page_slots old.number old.pages.opened 0 slots }
    pub pages : now.pages ≡ record old.pages { opened = old.pages.opened + 1 }
    pub rest : now ≡ record old { free = now.free; pages = now.pages; objects = now.objects }
    pub narrow : length now.objects.items ≡ shard_places old.shape
    pub left_is : slots + length left ≡ page_size old.shape old.pages.opened
    pub empty : All (λ object. content object ≡ []) left
    pub same : SameRows old.objects now.objects
    pub wide : length now.objects.rights ≡ length old.objects.rights
    pub rights : (index : ℕ) → slice_get old.objects.rights index ≡ Some true → slice_get now.objects.rights index ≡ Some true
    pub fits : (v : View) → FitsShelf content room old.shape v old → FitsShelf content room old.shape v now

  -- at first none is
  pub none-on : (pages : ShardPages) (left : List T) → old.free.own ≡ [] → pages ≡ record old.pages { opened = old.pages.opened + 1 }
      → length old.objects.items ≡ shard_places old.shape → length left ≡ page_size old.shape old.pages.opened → All (λ object. content object ≡ []) left
      → OpensSlots left (record old { pages = pages })
  none-on pages left none is narrow count empty = record {
    slots = 0;
    list = ap (λ (own : List Place). record old.free { own = own }) none;
    pages = is;
    rest = refl;
    narrow = narrow;
    left_is = omega (arith, count);
    empty = empty;
    same = (refl, refl);
    wide = refl;
    rights = λ index has. has;
    fits = λ v fits. subst (λ (p : ShardPages). FitsStores content room old.shape v old.free p old.objects.items) (sym is)
        (stores-opened fits (old.pages.opened + 1) (omega arith));
  }

  -- at last all are
  pub all-on : (now : LaneState T) → OpensSlots [] now → OpensNext content room old now
  all-on now on =
      let all : on.slots ≡ page_size old.shape old.pages.opened = let is = on.left_is in omega (arith, is) in record {
        list = on.list ∙ ap (λ (n : ℕ). record old.free { own = page_slots old.number old.pages.opened 0 n }) all;
        pages = on.pages;
        rest = on.rest;
        same = on.same;
        wide = on.wide;
        rights = on.rights;
        fits = on.fits;
      }

  -- ---- the next slot
  module _ (may : MayOpen old) (now : LaneState T) {object : T} {left : List T} (on : OpensSlots (object ∷ left) now) where
    abbrev place : ℕ
    place = place_at old.number old.pages.opened on.slots

    pub same-number : now.number ≡ old.number
    same-number = ap (λ (s : LaneState T). s.number) on.rest

    pub same-shape : now.shape ≡ old.shape
    same-shape = ap (λ (s : LaneState T). s.shape) on.rest

    pub low-shard : old.number < 64
    low-shard = let few : old.shape.lanes ≤ 64 = may.shape.lanes.1 in let low = may.lane in omega (arith, few, low)

    pub low-page : old.pages.opened < 16
    low-page = let few : old.shape.pages ≤ 16 = may.shape.pages.1 in let low = may.unopened in omega (arith, few, low)

    low-slot : on.slots < page_size old.shape old.pages.opened
    low-slot = let is = on.left_is in omega (arith, is)

    pub small-slot : on.slots < 4096
    small-slot = let small = page_size-le old.shape old.pages.opened in let low = low-slot in omega (arith, small, low)

    -- it is the length of the list
    pub slot-is : length now.free.own ≡ on.slots
    slot-is = ap (λ (f : FreePlaces). length f.own) on.list ∙ slots-length old.number old.pages.opened 0 on.slots

    pub inside : is_place old.shape place ≡ true
    inside = is_place-place_at old.shape may.shape old.number old.pages.opened on.slots may.lane may.unopened low-slot

    pub shard-is : shard_of place ≡ old.number
    shard-is = shard_of-place_at old.number old.pages.opened on.slots (let low = low-page in omega (arith, low)) (let low = small-slot in omega (arith, low))

    pub page-is : page_of place ≡ old.pages.opened
    page-is = page_of-place_at old.number old.pages.opened on.slots (let low = low-page in omega (arith, low)) (let low = small-slot in omega (arith, low))

    slot-of-is : slot_of place ≡ on.slots
    slot-of-is = slot_of-place_at old.number old.pages.opened on.slots (let low = small-slot in omega (arith, low))

    absent : (at : Place) → Contains now.free.own at → number_of at ≢ place
    absent at within same =
        let below = All-contains (λ p. number_of p < place) (page_slots old.number old.pages.opened 0 on.slots) at
        (slots-below old.number old.pages.opened 0 on.slots on.slots (omega arith)) (subst (λ (f : FreePlaces). Contains f.own at) on.list within) in
        let far : number_of at < place = below in
        let bad : place < place = subst (λ (n : ℕ). n < place) same far in omega (arith, bad)

    -- so it may go on the list
    pub slot-away : IsAway now.free (place_numbered place)
    slot-away =
        let shard : now.free.shard ≡ old.free.shard = ap (λ (f : FreePlaces). f.shard) on.list in
        let shape : now.free.shape ≡ shape_of old.shape.first_page old.shape.pages = ap (λ (f : FreePlaces). f.shape) on.list ∙ may.list in
        let here : IsOwn now.free.shard old.shape (place_numbered place)
        = own_from_number old.shape now.free.shard place (place_numbered place) inside (shard-is ∙ sym (shard ∙ may.shard)) refl refl refl in record {
          own = own_in_shape old.shape now.free.shape now.free.shard (place_numbered place) (ap (λ (s : Shape). s.first_page) shape) (ap (λ (s : Shape). s.pages) shape) here;
          unlisted = λ within. absent (place_numbered place) within (numbered place);
          unhung = λ hung.
              let none : now.free.chain ≡ None = ap (λ (f : FreePlaces). f.chain) on.list ∙ may.chain in
              let bad : None ≡ Some (place_numbered place) = sym none ∙ hung in cc bad;
        }

    -- and with it one more is there
    pub one-on : (next : LaneState T) → KeepsOwn place object now next → OpensSlots left next
    one-on next keeps =
        let slot : Place = record { shard = old.number; page = old.pages.opened; slot = on.slots } in
        let is : place_numbered place ≡ slot = λ i. record { shard = shard-is i; page = page-is i; slot = slot-of-is i } in
        let pages : next.pages ≡ now.pages = ap (λ (s : LaneState T). s.pages) keeps.rest in
        let own : now.free.own ++ place_numbered place ∷ [] ≡ page_slots old.number old.pages.opened 0 (suc on.slots)
        = ap (λ (f : FreePlaces). f.own ++ place_numbered place ∷ []) on.list
        ∙ (ap (λ (p : Place). page_slots old.number old.pages.opened 0 on.slots ++ p ∷ []) is
        ∙ sym (slots-more old.number old.pages.opened 0 on.slots ∙ ap (λ (s : ℕ). page_slots old.number old.pages.opened 0 on.slots ++ record { shard = old.number; page = old.pages.opened; slot = s } ∷ []) (let same : 0 + on.slots ≡ on.slots = omega arith in same))) in
        let objects : next.objects.items ≡ slice_set now.objects.items (index_of old.shape place) (Some object)
        = keeps.objects ∙ ap (λ (z : Shape). slice_set now.objects.items (index_of z place) (Some object)) same-shape in record {
          slots = suc on.slots;
          list = keeps.list ∙ (ap (λ (ps : List Place). record now.free { own = ps }) own
              ∙ ap (λ (f : FreePlaces). record f { own = page_slots old.number old.pages.opened 0 (suc on.slots) }) on.list);
          pages = pages ∙ on.pages;
          rest = keeps.rest ∙ (ap (λ (s : LaneState T). record s { objects = next.objects; free = next.free }) on.rest
              ∙ ap (λ (p : ShardPages). record old { free = next.free; pages = p; objects = next.objects }) (sym pages));
          narrow = ap (λ (xs : List (Option T)). length xs) objects ∙ (length-set now.objects.items (index_of old.shape place) (Some object) ∙ on.narrow);
          left_is = let was = on.left_is in omega (arith, was);
          empty = All-tail (λ x. content x ≡ []) object left on.empty;
          same = (keeps.same.0 ∙ on.same.0, keeps.same.1 ∙ on.same.1);
          wide = ap (λ (xs : List Bool). length xs) keeps.rights ∙ (length-set now.objects.rights (index_of now.shape place) true ∙ on.wide);
          rights = λ index has. subst (λ (xs : List Bool). slice_get xs index ≡ Some true) (sym keeps.rights) (stays-true now.objects.rights (index_of now.shape place) index (on.rights index has));
          fits = λ v was.
              let fits = on.fits v was in
              let lane : shard_of place ≡ (the_lane v).lane = shard-is ∙ (sym may.shard ∙ was.lists.0) in
              let high : old.pages.opened ≤ page_of place = let e = page-is in omega (arith, e) in
              let opened : page_of place < now.pages.opened = let e = page-is in let more = ap (λ (p : ShardPages). p.opened) on.pages in omega (arith, e, more) in
              let blank : IsBlank old.shape v place (room object) = blank-wider (omega arith) (was.unopened place inside lane high) in
              let kept = stores-kept fits {place = place} {object = object} (subst AreFree keeps.list keeps.free) inside opened absent blank
              (All-head (λ x. content x ≡ []) object left on.empty) in
              subst (λ (p : ShardPages). FitsStores content room old.shape v next.free p next.objects.items) (sym pages)
              (subst (λ (xs : List (Option T)). FitsStores content room old.shape v next.free now.pages xs) (sym objects)
              (subst (λ (f : FreePlaces). FitsStores content room old.shape v f now.pages (slice_set now.objects.items (index_of old.shape place) (Some object))) (sym keeps.list) kept));
        }
