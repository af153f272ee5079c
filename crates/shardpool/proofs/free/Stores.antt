-- How the free places of a lane go on fitting what it has seen and did.
use Rattle.std.proofs.Common.{◌≡◌, ◌≢◌, ℕ, ◌<◌, ◌≤◌, Bool, true, false, cond, eqb, List, [], ◌∷◌, ◌++◌, length, Option, Some, None, refl, ap, sym, ◌∙◌, subst, arith, ⊎_elim, get_or-set_same, get_or-set_other, length-set, eq-eqb, ne_eqb}
use Rattle.std.specs.Prelude.{slice_get, slice_set}
use Rattle.std.specs.List.{All, Contains}
use Rattle.std.proofs.lemmas.Bool.{cases_Bool, cases_lt}
use Rattle.std.proofs.lemmas.Option.{slice_get_within, slice_get-get_or, get_or_from_slice_get}
use Rattle.std.proofs.lemmas.List.Elements.{Contains-push, Contains-append_left, Contains-append_right, Contains-push_cases, All-contains}
use mathlib.Core.Logic.{dite}
use native.Mathlib.Decide.{ℕ_discrete}
use Rattle.keybits.specs.declared.shape.Shape.{Shape}
use Rattle.keybits.specs.declared.place.Place.{Place}
use Rattle.keybits.specs.Places.{shard_of, page_of, number_of}
use Rattle.keybits.specs.Shapes.{callers, IsShape, is_place, index_of}
use Rattle.keybits.proofs.PlaceLemmas.{place_at-parts}
use Rattle.keybits.proofs.ShapeLemmas.{index_of-lt}
use Rattle.freelists.specs.Shards.{ShardPages, IsOwn, shape_of, place_numbered}
use Rattle.freelists.specs.Queues.{FreePlaces, AreFree, IsAway}
use Rattle.freelists.proofs.ShardLemmas.{OwnNumber, own_number, own_at_index, own_from_number, own_in_shape, index_in_shape}
use Rattle.seqpool.specs.declared.act.Act.{Act}
use Rattle.seqpool.specs.Pool.{with, has, NoRepeats, pool_after}
use Rattle.seqpool.specs.Histories.{acts_of}
use Rattle.poolsteps.specs.declared.view.Status.TheVariants.{Untouched, Emptied, Whole}
use Rattle.poolsteps.specs.Shares.{at_rest}
use Rattle.poolsteps.specs.PlaceLaws.{gives_away}
use Rattle.poolsteps.specs.declared.view.View.{View}
use Rattle.poolsteps.specs.Views.{the_lane, status_of}
use Rattle.poolsteps.specs.Told.{LeftAlone}
use Rattle.poolsteps.specs.Returned.{rest_of}
use Rattle.seatcalls.specs.declared.at.Reclaimed.{Reclaimed}
use Rattle.seatcalls.specs.declared.at.Reclaimed.TheVariants.{Own, Returned, Retired}
use Rattle.shardpool.specs.declared.pool.LaneState.{LaneState}
use Rattle.shardpool.specs.Stores.{Keeps}
use Rattle.shardpool.specs.Tokens.{LaneOf}
use Rattle.shardpool.specs.Places.{IsBlank, IsResting}
use Rattle.shardpool.specs.LaneStates.{IsFirst, IsListed, FitsStores}
use Rattle.shardpool.specs.Lanes.{IsFilling}
use Rattle.seatcalls.proofs.parts.Frames.{Passes, OnlyAt}
use Rattle.shardpool.proofs.frame.LaneFrames.{away-elsewhere}
use Rattle.shardpool.proofs.frame.KeptPlaces.{blank-passes, resting-passes}

-- ---- which places what a lane did leaves as they are

-- the acts don't give the place away, and its slots are not among those touched
abbrev pub Spared : (ℕ → Bool) → List Act → ℕ → Type 0
Spared at made p = (at p ≡ false) × All (λ act. gives_away act p ≡ false) made

module _ (z : Shape) (v : View) (free : FreePlaces) (pages : ShardPages) where
  -- so it is with each free place of the lane: those of its list, those of its unopened pages, and those of its taken chain
  pub record SparesFree (at : ℕ → Bool) (made : List Act) : Type 0 where
    pub listed : (place : Place) → Contains free.own place → Spared at made (number_of place)
    pub unopened : (p : ℕ) → is_place z p ≡ true → shard_of p ≡ (the_lane v).lane → pages.opened ≤ page_of p → Spared at made p
    pub chained : (p : ℕ) → has (the_lane v).chain p ≡ true → Spared at made p

  -- the place is none of the free places of the lane
  pub record IsApart (place : ℕ) : Type 0 where
    pub unlisted : (at : Place) → Contains free.own at → number_of at ≢ place
    pub opened : is_place z place ≡ true → shard_of place ≡ (the_lane v).lane → page_of place < pages.opened
    pub unchained : has (the_lane v).chain place ≡ false

  module _ (place : ℕ) (made : List Act) (only : OnlyAt place made) where
    -- acts of a place that they don't give away spare each place, where they touch no slots
    pub spares-still : All (λ act. gives_away act place ≡ false) made → SparesFree (λ p. false) made
    spares-still keeps =
        let spared : (p : ℕ) → Spared (λ p. false) made p = λ p. (
          refl,
          dite (ℕ_discrete p place)
              (λ (same : p ≡ place). subst (λ (q : ℕ). All (λ act. gives_away act q ≡ false) made) (sym same) keeps)
              (λ (other : p ≢ place). away-elsewhere place p made only other),
        ) in
        record { listed = λ at within. spared (number_of at); unopened = λ p inside own high. spared p; chained = λ p in_it. spared p }

    -- acts of a place that is none of the free ones spare these, where they touch its slots alone
    pub spares-apart : IsApart place → SparesFree (λ p. eqb p place) made
    spares-apart apart =
        let spared : (p : ℕ) → p ≢ place → Spared (λ p. eqb p place) made p = λ p other. (ne_eqb p place other, away-elsewhere place p made only other) in
        record {
          listed = λ at within. spared (number_of at) (apart.unlisted at within);
          unopened = λ p inside own high. spared p (λ same.
              let low : page_of place < pages.opened = apart.opened (subst (λ q. is_place z q ≡ true) same inside) (sym (ap shard_of same) ∙ own) in
              let page : page_of p ≡ page_of place = ap page_of same in absurd (omega arith));
          chained = λ p in_it. spared p (λ same. let bad : true ≡ false = sym in_it ∙ (ap (has (the_lane v).chain) same ∙ apart.unchained) in cc bad);
        }

-- a filling is none of the free places
pub filling-apart : (lane : LaneOf) (place : ℕ) → IsFilling lane place → IsApart lane.shape lane.book lane.free lane.pages place
filling-apart lane place filling = record { unlisted = filling.unlisted; opened = λ inside own. filling.opened; unchained = filling.unchained }

-- each slot of a place at rest was touched
pub rest-touched : (place number : ℕ) → at_rest place number ≢ Untouched
rest-touched place number is = ⊎_elim
    (λ (own : eqb number (shard_of place) ≡ true). let bad : Whole ≡ Untouched = sym (ap (λ b. cond b Whole Emptied) own) ∙ is in cc bad)
    (λ (other : eqb number (shard_of place) ≡ false). let bad : Emptied ≡ Untouched = sym (ap (λ b. cond b Whole Emptied) other) ∙ is in cc bad)
    (cases_Bool (eqb number (shard_of place)))

-- ---- what a lane did leaves the free places that it spares

module _ {T : Type 0} {content : T → List ℕ} {room : T → ℕ} {z : Shape} {v : View} {free : FreePlaces} {pages : ShardPages} {objects : List (Option T)}
    (fits : FitsStores content room z v free pages objects) where
  -- a place at which something holds that holds of no free place is none of these
  apart-by : (P : ℕ → Type 0) (place : ℕ) → P place → ((p most : ℕ) → IsBlank z v p most → P p → ⊥) → ((p : ℕ) → IsResting z v p → P p → ⊥)
      → IsApart z v free pages place
  apart-by P place is blank rests = record {
    unlisted = λ at within same. let was = fits.listed at within in blank (number_of at) (room was.object) was.blank (subst P (sym same) is);
    opened = λ inside own. ⊎_elim (λ (low : page_of place < pages.opened). low)
        (λ (high : pages.opened ≤ page_of place). absurd (blank place 0 (fits.unopened place inside own high) is))
        (cases_lt (page_of place) pages.opened);
    unchained = ⊎_elim
        (λ (in_it : has (the_lane v).chain place ≡ true). absurd (rests place (fits.chained place in_it).0 is))
        (λ (isnt : has (the_lane v).chain place ≡ false). isnt)
        (cases_Bool (has (the_lane v).chain place));
  }

  -- so it is with a place whose slots the lane left alone
  pub alone-apart : 0 < z.lanes → (place : ℕ) → LeftAlone z (the_lane v) place → IsApart z v free pages place
  alone-apart some place alone = let one : 0 < callers z = omega (arith, some) in apart-by (λ p. status_of (the_lane v) p 0 ≡ Untouched) place (alone 0 one)
      (λ p most blank left. let bad : Untouched ≡ Emptied = sym left ∙ blank.emptied 0 one in cc bad)
      (λ p rests left. rest-touched p 0 (sym (rests.rests 0 one) ∙ left))

  -- and with a place that isn't with the lane
  pub elsewhere-apart : (place : ℕ) → (pool_after z v.seen place).phase ≢ with (the_lane v).lane → IsApart z v free pages place
  elsewhere-apart place away = apart-by (λ p. (pool_after z v.seen p).phase ≢ with (the_lane v).lane) place away
      (λ p most blank other. other blank.with_lane)
      (λ p rests other. other rests.with_lane)

  module _ {at : ℕ → Bool} {made : List Act} {w : View} (passes : Passes z at made v w) (paired : length v.rooms ≡ length v.seen)
      (own : (the_lane v).mine ≡ acts_of (the_lane v).lane v.seen) where
    -- with what is told of the taken chain after that, it leaves the list and the unopened pages that it spares
    pub stores-onto : {next : Option Place} → ((place : Place) → Contains free.own place → Spared at made (number_of place))
        → ((p : ℕ) → is_place z p ≡ true → shard_of p ≡ (the_lane v).lane → pages.opened ≤ page_of p → Spared at made p)
        → ((p : ℕ) → has (the_lane w).chain p ≡ true → IsResting z w p × (page_of p < pages.opened)) → NoRepeats (the_lane w).chain → IsFirst next (the_lane w).chain
        → FitsStores content room z w (record free { chain = next }) pages objects
    stores-onto listed unopened chained unrepeated first = record {
      lists = (fits.lists.0 ∙ sym passes.acted.lane, fits.lists.1);
      paged = (fits.paged.0 ∙ sym passes.acted.lane, fits.paged.1);
      narrow = fits.narrow;
      listed = λ place within.
          let was = fits.listed place within in
          let spared = listed place within in
          record {
            opened_is = was.opened_is;
            object = was.object;
            stands = was.stands;
            empty = was.empty;
            blank = blank-passes passes paired own was.blank spared.0 spared.1;
          };
      unopened = λ p inside mine high.
          let here = mine ∙ passes.acted.lane in
          let spared = unopened p inside here high in
          blank-passes passes paired own (fits.unopened p inside here high) spared.0 spared.1;
      chained = chained;
      unrepeated = unrepeated;
      first = first;
    }

    pub stores-pass : (the_lane w).chain ≡ (the_lane v).chain → SparesFree z v free pages at made → FitsStores content room z w free pages objects
    stores-pass chain spares = stores-onto spares.listed spares.unopened
        (λ p in_it.
        let back : has (the_lane v).chain p ≡ true = sym (ap (λ ps. has ps p) chain) ∙ in_it in
        let was = fits.chained p back in
        let spared = spares.chained p back in
        (resting-passes passes paired own was.0 spared.0 spared.1, was.1))
        (subst (λ (ps : List ℕ). NoRepeats ps) (sym chain) fits.unrepeated)
        (subst (λ (ps : List ℕ). IsFirst free.chain ps) (sym chain) fits.first)

  module _ {made : List Act} {w : View} {place : ℕ} (paired : length v.rooms ≡ length v.seen)
      (own : (the_lane v).mine ≡ acts_of (the_lane v).lane v.seen) (chain : (the_lane w).chain ≡ (the_lane v).chain) (only : OnlyAt place made) where
    -- acts of one place that touch no slots leave the free places, where they don't give it away
    pub stores-still : Passes z (λ p. false) made v w → All (λ act. gives_away act place ≡ false) made → FitsStores content room z w free pages objects
    stores-still passes keeps = stores-pass passes paired own chain (spares-still z v free pages place made only keeps)

    -- and those of a place that is none of them, where they touch its slots alone
    pub stores-apart : Passes z (λ p. eqb p place) made v w → IsApart z v free pages place → FitsStores content room z w free pages objects
    stores-apart passes apart = stores-pass passes paired own chain (spares-apart z v free pages place made only apart)

-- ---- the list and the objects

module _ {X : Type 0} (xs : List X) (i : ℕ) (x : X) where
  pub stands-here : i < length xs → slice_get (slice_set xs i x) i ≡ Some x
  stands-here low =
      let inside : i < length (slice_set xs i x) = subst (λ n. i < n) (sym (length-set xs i x)) low in
      slice_get-get_or (slice_set xs i x) i x inside ∙ ap Some (get_or-set_same xs i x x low)

  pub stands-else : (j : ℕ) (y : X) → j ≢ i → slice_get xs j ≡ Some y → slice_get (slice_set xs i x) j ≡ Some y
  stands-else j y other is =
      let inside : j < length (slice_set xs i x) = subst (λ n. j < n) (sym (length-set xs i x)) (slice_get_within xs j y is) in
      slice_get-get_or (slice_set xs i x) j y inside ∙ ap Some (get_or-set_other xs i j x y other ∙ get_or_from_slice_get xs j y y is)

-- a place of a lane's list is one of its pool's shape
pub own-inside : (z : Shape) (free : FreePlaces) (place : Place) → IsShape z → free.shard < z.lanes → free.shape ≡ shape_of z.first_page z.pages
    → IsOwn free.shard free.shape place → OwnNumber z (number_of place) place
own-inside z free place ok below same own =
    let first : z.first_page ≡ free.shape.first_page = sym (ap (λ (s : Shape). s.first_page) same) in
    let pages : z.pages ≡ free.shape.pages = sym (ap (λ (s : Shape). s.pages) same) in
    own_number z free.shard place (record { shape = ok; shard_below = below }) (own_in_shape free.shape z free.shard place first pages own)

-- the number of the place that is made of a number
pub numbered : (place : ℕ) → number_of (place_numbered place) ≡ place
numbered place = place_at-parts place

module _ {T : Type 0} {content : T → List ℕ} {room : T → ℕ} {z : Shape} {w : View} {free : FreePlaces} {pages : ShardPages} {objects : List (Option T)}
    (fits : FitsStores content room z w free pages objects) where
  -- two places of a sound list with one index are one
  same-index : (list : FreePlaces) → list.shape ≡ free.shape → AreFree list → (p q : Place) → IsOwn list.shard list.shape p → IsOwn list.shard list.shape q
      → index_of z (number_of p) ≡ index_of z (number_of q) → p ≡ q
  same-index list same ok p q own_p own_q is =
      let first : list.shape.first_page ≡ z.first_page = ap (λ (s : Shape). s.first_page) (same ∙ fits.lists.1) in
      let there : (n : ℕ) → index_of z n ≡ index_of list.shape n = λ n. index_in_shape list.shape z n (sym first) in
      own_at_index list.shape list.shard p q ok.limits own_p own_q (sym (there (number_of p)) ∙ (is ∙ there (number_of q)))

  -- a listed place stays so where an object at another index changes
  listed-else : (at : Place) (i : ℕ) (x : Option T) → index_of z (number_of at) ≢ i → Contains free.own at
      → IsListed content room z w pages.opened (slice_set objects i x) at
  listed-else at i x other within =
      let was = fits.listed at within in
      record {
        opened_is = was.opened_is;
        object = was.object;
        stands = stands-else objects i x (index_of z (number_of at)) (Some was.object) other was.stands;
        empty = was.empty;
        blank = was.blank;
      }

  -- a place of the shard is one of the list's places
  pub own-numbered : (place : ℕ) → is_place z place ≡ true → shard_of place ≡ (the_lane w).lane → IsOwn free.shard free.shape (place_numbered place)
  own-numbered place inside own =
      let here : IsOwn free.shard z (place_numbered place) = own_from_number z free.shard place (place_numbered place) inside (own ∙ sym fits.lists.0) refl refl refl in
      own_in_shape z free.shape free.shard (place_numbered place) (ap (λ (s : Shape). s.first_page) fits.lists.1) (ap (λ (s : Shape). s.pages) fits.lists.1) here

  -- and it may be pushed, where it is none of the free places
  pub apart-away : (place : ℕ) → is_place z place ≡ true → shard_of place ≡ (the_lane w).lane → IsApart z w free pages place → IsAway free (place_numbered place)
  apart-away place inside own apart = record {
    own = own-numbered place inside own;
    unlisted = λ within. apart.unlisted (place_numbered place) within (numbered place);
    unhung = λ hung.
        let chain : (the_lane w).chain ≡ number_of (place_numbered place) ∷ rest_of (the_lane w).chain = subst (λ first. IsFirst first (the_lane w).chain) hung fits.first in
        let first : has (number_of (place_numbered place) ∷ rest_of (the_lane w).chain) place ≡ true = ap (λ b. cond b true (has (rest_of (the_lane w).chain) place)) (eq-eqb place (number_of (place_numbered place)) (sym (numbered place))) in
        let bad : true ≡ false = sym first ∙ (sym (ap (λ ps. has ps place) chain) ∙ apart.unchained) in cc bad;
  }

  -- a blank place of the shard goes on the list with its object
  pub stores-kept : {place : ℕ} {object : T} → AreFree (record free { own = free.own ++ place_numbered place ∷ [] }) → is_place z place ≡ true
      → page_of place < pages.opened → ((at : Place) → Contains free.own at → number_of at ≢ place) → IsBlank z w place (room object) → content object ≡ []
      → FitsStores content room z w (record free { own = free.own ++ place_numbered place ∷ [] }) pages (slice_set objects (index_of z place) (Some object))
  stores-kept {place = place} {object = object} ok inside opened absent blank empty =
      let new : Place = place_numbered place in
      let list : FreePlaces = record free { own = free.own ++ new ∷ [] } in
      let own-at : (at : Place) → Contains list.own at → IsOwn free.shard free.shape at = λ at within. All-contains (IsOwn free.shard free.shape) list.own at ok.own.inside within in
      let here : index_of z (number_of new) ≡ index_of z place = ap (index_of z) (numbered place) in
      let low : index_of z place < length objects = subst (λ n. index_of z place < n) (sym fits.narrow) (index_of-lt z place inside) in
      record {
        lists = fits.lists;
        paged = fits.paged;
        narrow = length-set objects (index_of z place) (Some object) ∙ fits.narrow;
        listed = λ at within. ⊎_elim
            (λ (old : Contains free.own at). listed-else at (index_of z place) (Some object)
            (λ same. absent at old (ap number_of (same-index list refl ok at new (own-at at within) (own-at new (Contains-push free.own new)) (same ∙ sym here)) ∙ numbered place)) old)
            (λ (is : new ≡ at). subst (λ p. IsListed content room z w pages.opened (slice_set objects (index_of z place) (Some object)) p) is (record {
              opened_is = subst (λ n. page_of n < pages.opened) (sym (numbered place)) opened;
              object = object;
              stands = subst (λ n. slice_get (slice_set objects (index_of z place) (Some object)) n ≡ Some (Some object)) (sym here) (stands-here objects (index_of z place) (Some object) low);
              empty = empty;
              blank = subst (λ n. IsBlank z w n (room object)) (sym (numbered place)) blank;
            }))
            (Contains-push_cases free.own new at within);
        unopened = fits.unopened;
        chained = fits.chained;
        unrepeated = fits.unrepeated;
        first = fits.first;
      }

  -- the first place of the list comes off it, and its object is taken out
  pub stores-popped : {p : Place} {rest : List Place} (x : Option T) → free.own ≡ p ∷ rest → AreFree (record free { own = rest }) → IsAway (record free { own = rest }) p
      → FitsStores content room z w (record free { own = rest }) pages (slice_set objects (index_of z (number_of p)) x)
  stores-popped {p = p} {rest = rest} x is ok away =
      let list : FreePlaces = record free { own = rest } in
      let old : (at : Place) → Contains rest at → Contains free.own at = λ at within. subst (λ (ps : List Place). Contains ps at) (sym is) (Contains-append_right (p ∷ []) rest at within) in
      record {
        lists = fits.lists;
        paged = fits.paged;
        narrow = length-set objects (index_of z (number_of p)) x ∙ fits.narrow;
        listed = λ at within. listed-else at (index_of z (number_of p)) x
            (λ same. away.unlisted (subst (λ q. Contains rest q)
            (same-index list refl ok at p (All-contains (IsOwn free.shard free.shape) rest at ok.own.inside within) away.own same) within)) (old at within);
        unopened = fits.unopened;
        chained = fits.chained;
        unrepeated = fits.unrepeated;
        first = fits.first;
      }

  -- the first place of the list is listed
  pub first-listed : {p : Place} {rest : List Place} → free.own ≡ p ∷ rest → IsListed content room z w pages.opened objects p
  first-listed {p = p} {rest = rest} is = fits.listed p (subst (λ (ps : List Place). Contains ps p) (sym is) (Contains-append_left (p ∷ []) rest p (Contains-push [] p)))

-- the first place of a list is in it
pub first-in : (p : Place) (rest places : List Place) → places ≡ p ∷ rest → Contains places p
first-in p rest places is = subst (λ (ps : List Place). Contains ps p) (sym is) (Contains-append_left (p ∷ []) rest p (Contains-push [] p))

-- ---- the pages

-- a blank place is one for any greater room
pub blank-wider : {z : Shape} {v : View} {p n m : ℕ} → n ≤ m → IsBlank z v p n → IsBlank z v p m
blank-wider le blank = let least = blank.room in record { with_lane = blank.with_lane; emptied = blank.emptied; room = omega (arith, least, le) }

module _ {T : Type 0} {content : T → List ℕ} {room : T → ℕ} {z : Shape} {v : View} {free : FreePlaces} {pages : ShardPages} {objects : List (Option T)}
    (fits : FitsStores content room z v free pages objects) where
  -- a place of an unopened page isn't listed
  pub unopened-unlisted : (place : ℕ) → pages.opened ≤ page_of place → (at : Place) → Contains free.own at → number_of at ≢ place
  unopened-unlisted place high at within same =
      let low = (fits.listed at within).opened_is in let page : page_of (number_of at) ≡ page_of place = ap page_of same in absurd (omega arith)

  -- more pages are opened
  pub stores-opened : (n : ℕ) → pages.opened ≤ n → FitsStores content room z v free (record pages { opened = n }) objects
  stores-opened n le = record {
    lists = fits.lists;
    paged = fits.paged;
    narrow = fits.narrow;
    listed = λ at within.
        let was = fits.listed at within in let low = was.opened_is in
        record { opened_is = omega (arith, low, le); object = was.object; stands = was.stands; empty = was.empty; blank = was.blank };
    unopened = λ p inside own high. fits.unopened p inside own (omega (arith, le, high));
    chained = λ p in_it. let was = fits.chained p in_it in let low = was.1 in (was.0, omega (arith, low, le));
    unrepeated = fits.unrepeated;
    first = fits.first;
  }

-- ---- a place that was reclaimed, or not

-- what a state has of its stores fits so
abbrev pub FitsShelf : {T : Type 0} → (T → List ℕ) → (T → ℕ) → Shape → View → LaneState T → Type 0
FitsShelf content room z v s = FitsStores content room z v s.free s.pages s.objects.items

-- an own object is empty, and its place blank
abbrev pub IsKeepable : {T : Type 0} → (T → List ℕ) → (T → ℕ) → Shape → View → ℕ → Option (Reclaimed T) → Type 0
IsKeepable content room z v place None = Unit {0}
IsKeepable content room z v place (Some (Own whole)) = (shard_of place ≡ (the_lane v).lane) × (content whole.object ≡ []) × IsBlank z v place (room whole.object)
IsKeepable content room z v place (Some Returned) = Unit {0}
IsKeepable content room z v place (Some Retired) = Unit {0}

-- the stores still fit after that was kept
pub stores-reclaimed : {T : Type 0} {content : T → List ℕ} {room : T → ℕ} {z : Shape} {v : View} {place : ℕ} (s t : LaneState T) (reclaimed : Option (Reclaimed T)) → s.shape ≡ z
    → is_place z place ≡ true → FitsShelf content room z v s → IsApart z v s.free s.pages place → IsKeepable content room z v place reclaimed → Keeps place reclaimed s t
    → FitsShelf content room z v t
stores-reclaimed {content = content} {room = room} {z = z} {v = v} s t None shape inside fits apart may keeps = subst (λ x. FitsShelf content room z v x) (sym keeps) fits
stores-reclaimed {content = content} {room = room} {z = z} {v = v} s t (Some Retired) shape inside fits apart may keeps = subst (λ x. FitsShelf content room z v x) (sym keeps) fits
stores-reclaimed {content = content} {room = room} {z = z} {v = v} s t (Some Returned) shape inside fits apart may keeps = subst (λ x. FitsShelf content room z v x) (sym keeps.rest) fits
stores-reclaimed {T = T} {content = content} {room = room} {z = z} {v = v} {place = place} s t (Some (Own whole)) shape inside fits apart may keeps =
    let kept = stores-kept fits {place = place} {object = whole.object} (subst AreFree keeps.list keeps.free) inside (apart.opened inside may.0) apart.unlisted may.2 may.1 in
    let pages : s.pages ≡ t.pages = sym (ap (λ (x : LaneState T). x.pages) keeps.rest) in
    let objects : slice_set s.objects.items (index_of z place) (Some whole.object) ≡ t.objects.items = ap (λ (y : Shape). slice_set s.objects.items (index_of y place) (Some whole.object)) (sym shape) ∙ sym keeps.objects in
    subst (λ (x : List (Option T)). FitsStores content room z v t.free t.pages x) objects
    (subst (λ (x : ShardPages). FitsStores content room z v t.free x (slice_set s.objects.items (index_of z place) (Some whole.object))) pages
    (subst (λ (x : FreePlaces). FitsStores content room z v x s.pages (slice_set s.objects.items (index_of z place) (Some whole.object))) (sym keeps.list) kept))
