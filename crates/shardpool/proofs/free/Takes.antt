-- What a lane is once it took a chain, or followed the first place of its chain.
use Rattle.std.proofs.Common.{◌≡◌, ◌≢◌, ⊎_elim, ℕ, ◌<◌, ◌≤◌, Bool, true, false, cond, eqb, List, [], ◌∷◌, length, Option, Some, None, refl, ap, sym, ◌∙◌, subst, arith, eq-eqb, ne_eqb, inl}
use Rattle.std.specs.List.{Contains}
use Rattle.std.proofs.lemmas.Bool.{cases_Bool, eqb-false}
use Rattle.std.proofs.lemmas.List.Elements.{All-nil}
use Rattle.atomic_table.specs.Seated.{TableId}
use Rattle.atomic_table.specs.Table.{Me}
use Rattle.keybits.specs.declared.shape.Shape.{Shape}
use Rattle.keybits.specs.declared.place.Place.{Place}
use Rattle.keybits.specs.Places.{page_of, number_of}
use Rattle.keybits.specs.Keys.{place_of, generation_of}
use Rattle.keybits.specs.Links.{linked_place}
use Rattle.freelists.specs.Shards.{place_numbered}
use Rattle.freelists.specs.Queues.{FreePlaces, AreFree, IsAway, GoesOnBy}
use Rattle.freelists.proofs.ShardLemmas.{OwnNumber}
use Rattle.seqpool.specs.declared.act.Act.{Act}
use Rattle.seqpool.specs.declared.act.Act.TheVariants as acts
use Rattle.seqpool.specs.Pool.{Phase, with, has, NoRepeats, references_in, is_current, pool_after, retired}
use Rattle.poolsteps.specs.declared.view.Stored.{Stored}
use Rattle.poolsteps.specs.PlaceLaws.{gives_away}
use Rattle.poolsteps.specs.declared.view.LaneRecord.{LaneRecord}
use Rattle.poolsteps.specs.declared.view.View.{View}
use Rattle.poolsteps.specs.Views.{the_lane, status_of, known_of}
use Rattle.poolsteps.specs.Told.{references_seen}
use Rattle.poolsteps.specs.Returned.{rest_of, taken_record, LeadsTo}
use Rattle.seatcalls.specs.Taken.{Went, IsCollected, Collects, FollowsOut}
use Rattle.shardpool.specs.HeldKeys.{HeldKey}
use Rattle.shardpool.specs.declared.pool.LaneState.{LaneState}
use Rattle.shardpool.specs.Tokens.{PoolOf, LaneOf, FillingOf}
use Rattle.shardpool.specs.Lanes.{Made}
use Rattle.shardpool.specs.Places.{IsResting}
use Rattle.seatcalls.specs.Left.{has_retired}
use Rattle.shardpool.specs.Stores.{FollowsOn}
use Rattle.shardpool.specs.LaneStates.{IsFirst, FitsRow, FitsStores, Fits}
use Rattle.shardpool.specs.Stores.{Hangs}
use Rattle.shardpool.specs.Creates.{FollowsChain, TakesReturned}
use Rattle.seatcalls.proofs.parts.OtherShards.{NoneAbroad, abroad-one}
use Rattle.seatcalls.proofs.parts.Frames.{Passes}
use Rattle.shardpool.proofs.frame.LaneFrames.{passes-refs, onlyat-none}
use Rattle.shardpool.proofs.frame.KeptPlaces.{seat-passes, last_pushed-same}
use Rattle.shardpool.proofs.free.Stores.{own-inside, numbered, blank-wider, stores-still}
use Rattle.shardpool.proofs.free.Chains.{rest-unlisted, uncollected, collected-away, stores-hung, taken-deeds, taken-cells, taken-rests, stores-followed, followed-blank, link-goes-on, followed-first, first-rests}
use Rattle.shardpool.proofs.references.Rows.{rows-pass}
use Rattle.shardpool.proofs.frame.LaneFacts.{lane_of}
use Rattle.shardpool.proofs.frame.SeenHistories.{same-shape, made-passes, made-still}
use Rattle.seatcalls.proofs.parts.RetiredPlaces.{Retires, retires-else, retired-phase}

-- ---- rows

none-either : (b : Bool) → ◌≡◌ {A = ℕ} (cond b 0 0) 0
none-either true = refl
none-either false = refl

-- nobody refers to a key of a place that is with a lane
pub no-references : (z : Shape) (v : View) (key place : ℕ) {lane : ℕ} → (pool_after z v.seen place).phase ≡ with lane → place_of key ≡ place → references_seen z v key ≡ 0
no-references z v key place is here =
    let b : Bool = is_current z (pool_after z v.seen) key in
    ap (λ (p : ℕ). cond b (references_in (pool_after z v.seen p).phase (the_lane v).lane) 0) here
    ∙ (ap (λ (f : Phase). cond b (references_in f (the_lane v).lane) 0) is ∙ none-either b)

-- a row of a place to whose keys the lane has no reference counts none
pub unheld : {T : Type 0} {content : T → List ℕ} {room : T → ℕ} {z : Shape} {v : View} {place : ℕ} {row : HeldKey T} → FitsRow content room z v place row
    → ((key : ℕ) → place_of key ≡ place → references_seen z v key ≡ 0) → 0 < row.count → ⊥
unheld {row = row} fits none some =
    let k = fits.keyed some in
    let counts = fits.counts k.0 k.1 k.2 in
    let same = ap (λ (b : Bool). cond b row.count 0) (eq-eqb (generation_of k.0) row.generation k.3) in
    let zero = none k.0 k.2 in
    omega (arith, counts, same, zero, some)

-- ---- what is told without what the hand holds

bare-follows : {S : Type 0} {z : Shape} {place link : ℕ} {a b : Me S View} → FollowsOut z place link a b → FollowsOut {S = Unit {0}} z place link (a.0, []) (b.0, [])
bare-follows f = record {
  went = f.went;
  changes = f.changes;
  leads = f.leads;
  chain = f.chain;
  emptied = f.emptied;
  deeds = f.deeds;
  cells = f.cells;
  held = refl;
  stepped = f.stepped;
  looked = f.looked;
}

-- and so by the shape of its lane
pub follows-here : {S : Type 0} {view lane : LaneOf} {grid pool : PoolOf} {place link : ℕ} {a b : Me S View} → view ≡ lane → lane.shape ≡ pool.shape → grid ≡ pool
    → FollowsOut grid.shape place link a b → FollowsOut {S = Unit {0}} view.shape place link (a.0, []) (b.0, [])
follows-here {place = place} {link = link} {a = a} {b = b} seen owned of_pool follows =
    subst (λ (z : Shape). FollowsOut {S = Unit {0}} z place link (a.0, []) (b.0, [])) (same-shape seen owned of_pool) (bare-follows follows)

-- a word that leads to places is one of a place
word-of : (z : Shape) (shard word : ℕ) (places : List ℕ) → 0 < length places → LeadsTo z shard word places → (1 ≤ word) × (word ≤ 65536)
word-of z shard word [] some leads = absurd (omega (arith, some))
word-of z shard word (place ∷ more) some leads = let positive = leads.0 in (omega (arith, positive), leads.1)

-- so is what TAKEs found, but for 0
pub found-word : {S : Type 0} {z : Shape} {opened found : ℕ} {a b : Me S View} → found ≢ 0 → Collects z opened found a b → (1 ≤ found) × (found ≤ 65536)
found-word {z = z} {found = found} {a = a} isnt collects =
    let some = collects.some isnt in word-of z (the_lane a.0).lane found some.0 some.3 some.5

bare-collects : {S : Type 0} {z : Shape} {opened found : ℕ} {a b : Me S View} → Collects z opened found a b → Collects {S = Unit {0}} z opened found (a.0, []) (b.0, [])
bare-collects c = record {
  steps = c.steps;
  made = c.made;
  are = c.are;
  next = c.next;
  make = c.make;
  few = c.few;
  went = c.went;
  held = refl;
  stepped = c.stepped;
  looked = c.looked;
  none = c.none;
  some = c.some;
}

-- and so by the shape of its lane
pub collects-here : {S : Type 0} {view lane : LaneOf} {grid pool : PoolOf} {opened found : ℕ} {a b : Me S View} → view ≡ lane → lane.shape ≡ pool.shape → grid ≡ pool
    → Collects grid.shape opened found a b → Collects {S = Unit {0}} view.shape opened found (a.0, []) (b.0, [])
collects-here {opened = opened} {found = found} {a = a} {b = b} seen owned of_pool collects =
    subst (λ (z : Shape). Collects {S = Unit {0}} z opened found (a.0, []) (b.0, [])) (same-shape seen owned of_pool) (bare-collects collects)

went-passes : {z : Shape} {at : ℕ → Bool} {made : List Act} {v w : View} → Went z made v w
    → ((p number : ℕ) → at p ≡ false → status_of (the_lane w) p number ≡ status_of (the_lane v) p number)
    → ((p : ℕ) → at p ≡ false → known_of (the_lane w) p ≡ known_of (the_lane v) p) → Passes z at made v w
went-passes went deeds cells = record { acted = went.acted; deeds = deeds; cells = cells }

-- ---- the chain's first place is followed

split : (b c : Bool) → cond b true c ≡ false → (b ≡ false) × (c ≡ false)
split true c is = absurd (cc is)
split false c is = (refl, is)

-- what isn't in a list is neither its first nor among the others
not-has : (place : ℕ) (more : List ℕ) (p : ℕ) → has (place ∷ more) p ≡ false → (eqb p place ≡ false) × (has more p ≡ false)
not-has place more p isnt = split (eqb p place) (has more p) isnt

module _ {T : Type 0} {content : T → List ℕ} {room : T → ℕ} {v : View} {s : LaneState T} (fits : Fits content room s.shape v s) where
  lane-below : (the_lane v).lane < s.shape.lanes
  lane-below = subst (λ (n : ℕ). n < s.shape.lanes) fits.seat.number_is fits.seat.below

  shard-low : s.free.shard < s.shape.lanes
  shard-low = let same = fits.stores.lists.0 in let low = lane-below in omega (arith, same, low)

  module _ {first : Place} (hung : s.free.chain ≡ Some first) where
    chain-begins : (the_lane v).chain ≡ number_of first ∷ rest_of (the_lane v).chain
    chain-begins = subst (λ (one : Option Place). IsFirst one (the_lane v).chain) hung fits.stores.first

    -- the first place of the chain is one of the pool
    pub hung-inside : AreFree s.free → OwnNumber s.shape (number_of first) first
    hung-inside ok = own-inside s.shape s.free first fits.seat.shape shard-low fits.stores.lists.1
        (ok.chain.inside first hung)

    -- it stands in front of the others
    pub hung-begins : {place : ℕ} → place ≡ number_of first → (the_lane v).chain ≡ place ∷ rest_of (the_lane v).chain
    hung-begins at = chain-begins ∙ ap (λ (n : ℕ). n ∷ rest_of (the_lane v).chain) (sym at)

    -- and rests, in a pool of the lane's shape
    pub hung-rests : {z : Shape} {place : ℕ} → s.shape ≡ z → place ≡ number_of first → IsResting z v place
    hung-rests {place = place} shape at = subst (λ (z : Shape). IsResting z v place) shape (first-rests fits.stores lane-below (hung-begins at)).0

    module _ {w : View} {place link : ℕ} (at : place ≡ number_of first) (follows : FollowsOut {S = Unit {0}} s.shape place link (v, []) (w, [])) where
      begins : (the_lane v).chain ≡ place ∷ rest_of (the_lane v).chain
      begins = hung-begins at

      -- its link word leads on
      pub follow-goes : GoesOnBy s.free link
      follow-goes = link-goes-on fits.stores lane-below begins follows.leads

      passes : Passes s.shape (λ p. eqb p place) [] v w
      passes = went-passes follows.went (λ p number off. follows.deeds p number (eqb-false p place off)) (λ p off. follows.cells p (eqb-false p place off))

      rested : IsResting s.shape v place × (page_of place < s.pages.opened)
      rested = first-rests fits.stores lane-below begins

      once : (has (rest_of (the_lane v).chain) place ≡ false) × NoRepeats (rest_of (the_lane v).chain)
      once = subst (λ (ps : List ℕ). NoRepeats ps) begins fits.stores.unrepeated

      module _ {t : LaneState T} (on : FollowsOn link s t) where
        abbrev mid : LaneState T
        mid = record s { free = t.free }

        -- what is left fits
        followed-stores : FitsStores content room s.shape w t.free s.pages s.objects.items
        followed-stores =
            subst (λ (f : FreePlaces). FitsStores content room s.shape w f s.pages s.objects.items) (sym on.list)
            (stores-followed fits.stores lane-below begins passes fits.seat.paired fits.seat.own {next = t.free.chain} follows.chain
            (followed-first fits.stores lane-below begins follows.leads {next = t.free.chain} on.ends on.goes))

        followed-mid : Fits content room s.shape w mid
        followed-mid = record {
          shape_is = fits.shape_is;
          placed = fits.placed;
          seat = seat-passes fits.seat passes (follows.went.under ∙ fits.seat.idle) (λ p within other. refl)
              (retires-else s.shape place [] v w (onlyat-none place) (λ was.
              let bad : with (the_lane v).lane ≡ retired
              = sym rested.0.with_lane ∙ retired-phase s.shape v.seen (the_lane v).mine (the_lane v).lane place fits.seat.legal fits.seat.own was in absurd (cc bad)));
          last_pushed = last_pushed-same fits.last_pushed follows.went.pushed;
          rows = rows-pass passes fits.seat.own fits.rows
              (λ p row inside is fit. (
                (λ some. ne_eqb p place (λ same. unheld fit (λ key here. no-references s.shape v key place rested.0.with_lane (here ∙ same)) some)),
                (λ key n here. refl),
              )) refl;
          stores = followed-stores;
          rights = fits.rights;
          standing = fits.standing;
        }

        pub followed-fits : Fits content room t.shape w t
        followed-fits = subst (λ (x : LaneState T). Fits content room x.shape w x) (sym on.rest) followed-mid

        module _ (table table_now : TableId) (same : table_now ≡ table) where
          followed-lane : lane_of table_now w t ≡ lane_of table_now w mid
          followed-lane = ap (λ (x : LaneState T). lane_of table_now w x) on.rest

          -- the place is in nobody's hands
          pub followed-chain : {object : T} → content object ≡ (known_of (the_lane v) place).content → room object ≡ (known_of (the_lane v) place).room
              → FollowsChain content room (lane_of table v s) (lane_of table_now w t) place object
          followed-chain {object} shown roomy =
              let blank = followed-blank fits.stores lane-below begins passes fits.seat.paired fits.seat.own follows.emptied in
              subst (λ (lane : LaneOf). FollowsChain content room (lane_of table v s) lane place object) (sym followed-lane) (record {
                chain = begins ∙ ap (λ (ps : List ℕ). place ∷ ps) (sym follows.chain);
                follows = (link, follows);
                same = (same, refl, refl, refl);
                list = ap (λ (f : FreePlaces). f.own) on.list;
                pages = refl;
                loose = record {
                  filling = record {
                    inside = rested.0.inside;
                    own = rested.0.own ∙ sym fits.seat.number_is;
                    opened = rested.1;
                    with_lane = blank.with_lane ∙ ap with (follows.went.acted.lane ∙ sym fits.seat.number_is);
                    unlisted = λ one within is. rest-unlisted fits.stores lane-below place rested.0 one (subst (λ (f : FreePlaces). Contains f.own one) on.list within) is;
                    unchained = ap (λ (ps : List ℕ). has ps place) follows.chain ∙ once.0;
                  };
                  blank = blank-wider (omega (arith, roomy)) blank;
                  empty = shown ∙ rested.0.empty;
                };
              })

          -- and the fillings stay
          pub followed-fillings : (filling : FillingOf T) → Made (lane_of table v s) filling → Made (lane_of table_now w t) filling
          followed-fillings filling made =
              let p : ℕ = place_of filling.key in
              let off = not-has place (rest_of (the_lane v).chain) p (sym (ap (λ (ps : List ℕ). has ps p) begins) ∙ made.place.unchained) in
              subst (λ (lane : LaneOf). Made lane filling) (sym followed-lane)
              (made-passes (lane_of table v s) (lane_of table_now w mid) filling passes fits.seat (same, refl, refl, refl)
              (follows.went.under ∙ fits.seat.idle) off.0 (All-nil (λ act. gives_away act p ≡ false))
              (λ one within is. made.place.unlisted one (subst (λ (f : FreePlaces). Contains f.own one) on.list within) is)
              (ap (λ (ps : List ℕ). has ps p) follows.chain ∙ off.1) (omega arith) made)

-- ---- returned places are taken

-- TAKEs found these places
record Took (z : Shape) (found : ℕ) (v w : View) : Type 0 where
  pub places : List ℕ
  pub stored : ℕ → Stored
  pub went : Went z (acts.Collect (the_lane v).lane places ∷ []) v w
  pub many : 0 < length places
  pub once : NoRepeats places
  pub leads : LeadsTo z (the_lane v).lane found places
  pub collected : (place : ℕ) → has places place ≡ true → IsCollected z w (stored place) place
  pub is : the_lane w ≡ taken_record (the_lane v) places stored

took : {z : Shape} {opened found : ℕ} {v w : View} → found ≢ 0 → Collects {S = Unit {0}} z opened found (v, []) (w, []) → Took z found v w
took {z = z} {v = v} {w = w} some collects =
    let t = collects.some some in record {
      places = t.0;
      stored = t.1;
      went = subst (λ (made : List Act). Went z made v w) t.2 collects.went;
      many = t.3;
      once = t.4;
      leads = t.5;
      collected = t.6;
      is = t.7;
    }

-- the first of places to which a word leads
leads-first : (z : Shape) (lane link : ℕ) (places : List ℕ) → LeadsTo z lane link places → 0 < length places
    → (places ≡ linked_place lane link ∷ rest_of places) × (has places (linked_place lane link) ≡ true)
leads-first z lane link [] leads many = absurd (omega (arith, many))
leads-first z lane link (p ∷ more) leads many = (
  ap (λ (n : ℕ). n ∷ more) leads.2,
  ap (λ (b : Bool). cond b true (has more (linked_place lane link))) (eq-eqb (linked_place lane link) p (sym leads.2)),
)

module _ {T : Type 0} {content : T → List ℕ} {room : T → ℕ} {v w : View} {s : LaneState T} (fits : Fits content room s.shape v s) {found : ℕ}
    (some : found ≢ 0) (none : s.free.chain ≡ None) (collects : Collects {S = Unit {0}} s.shape s.pages.opened found (v, []) (w, [])) where
  abbrev t : Took s.shape found v w
  t = took some collects

  took-passes : Passes s.shape (has t.places) (acts.Collect (the_lane v).lane t.places ∷ []) v w
  took-passes = went-passes t.went
      (λ p number off. ap (λ (r : LaneRecord). status_of r p number) t.is ∙ taken-deeds (the_lane v) t.places t.stored p number off)
      (λ p off. ap (λ (r : LaneRecord). known_of r p) t.is ∙ taken-cells (the_lane v) t.places t.stored p off)

  took-first : (t.places ≡ linked_place (the_lane v).lane found ∷ rest_of t.places) × (has t.places (linked_place (the_lane v).lane found) ≡ true)
  took-first = leads-first s.shape (the_lane v).lane found t.places t.leads t.many

  took-chain : (the_lane w).chain ≡ t.places
  took-chain = ap (λ (r : LaneRecord). r.chain) t.is

  -- they are of the lane's shard
  took-alone : NoneAbroad s.shape s.number (acts.Collect (the_lane v).lane t.places ∷ [])
  took-alone = abroad-one s.shape s.number (acts.Collect (the_lane v).lane t.places) (λ p within other. ⊎_elim
      (λ (in_it : has t.places p ≡ true). absurd (other ((t.collected p in_it).1 ∙ (t.went.acted.lane ∙ sym fits.seat.number_is))))
      (λ (isnt : has t.places p ≡ false). isnt)
      (cases_Bool (has t.places p)))

  -- and the lane retired none of them
  took-retires : Retires s.shape (has t.places) (acts.Collect (the_lane v).lane t.places ∷ []) v w
  took-retires p inside is =
      let was : Bool = has_retired s.shape p (the_lane v).mine false in ⊎_elim
      (λ (in_it : has t.places p ≡ true). let bad : false ≡ true = sym (ap (λ (b : Bool). cond b false was) in_it) ∙ is in absurd (cc bad))
      (λ (isnt : has t.places p ≡ false). inl (isnt, sym (ap (λ (b : Bool). cond b false was) isnt) ∙ is))
      (cases_Bool (has t.places p))

  -- the first of them may hang
  pub took-away : IsAway s.free (place_numbered (linked_place s.number found))
  took-away =
      let p : ℕ = linked_place (the_lane v).lane found in
      let one = t.collected p took-first.1 in
      subst (λ (l : ℕ). IsAway s.free (place_numbered (linked_place l found))) (sym fits.seat.number_is)
      (collected-away fits.stores fits.seat.paired fits.seat.own took-passes none p took-first.1 one.0 (one.1 ∙ t.went.acted.lane))

  module _ {u : LaneState T} (hangs : Hangs found s u) where
    -- what is then kept fits
    pub took-fits : Fits content room u.shape w u
    took-fits =
        let first : Place = place_numbered (linked_place s.number found) in
        let mid : LaneState T = record s { free = u.free } in
        let begins : t.places ≡ number_of first ∷ rest_of t.places
        = took-first.0 ∙ ap (λ (n : ℕ). n ∷ rest_of t.places) (ap (λ (l : ℕ). linked_place l found) (sym fits.seat.number_is) ∙ sym (numbered (linked_place s.number found))) in
        let now : Fits content room s.shape w mid = record {
          shape_is = fits.shape_is;
          placed = fits.placed;
          seat = seat-passes fits.seat took-passes (t.went.under ∙ fits.seat.idle) took-alone took-retires;
          last_pushed = last_pushed-same fits.last_pushed t.went.pushed;
          rows = rows-pass took-passes fits.seat.own fits.rows
              (λ p row inside is fit. (
                (λ held. ⊎_elim
                    (λ (in_it : has t.places p ≡ true). absurd (unheld fit
                    (λ key here. sym (passes-refs took-passes fits.seat.own key) ∙ no-references s.shape w key p (t.collected p in_it).2 here) held))
                    (λ (isnt : has t.places p ≡ false). isnt)
                    (cases_Bool (has t.places p))),
                (λ key n here. refl),
              )) refl;
          stores = subst (λ (f : FreePlaces). FitsStores content room s.shape w f s.pages s.objects.items) (sym hangs.list)
              (stores-hung fits.stores fits.seat.paired fits.seat.own took-passes {first = first} took-chain t.once
              (λ p in_it. let one = t.collected p in_it in taken-rests (the_lane v) t.places t.stored s.shape w t.is p in_it one.0 one.1 one.2 one.3 one.4)
              begins);
          rights = fits.rights;
          standing = fits.standing;
        } in
        subst (λ (x : LaneState T). Fits content room x.shape w x) (sym hangs.rest) now

    module _ (table table_now : TableId) (same : table_now ≡ table) where
      took-lane : lane_of table_now w u ≡ lane_of table_now w (record s { free = u.free })
      took-lane = ap (λ (x : LaneState T). lane_of table_now w x) hangs.rest

      pub took-takes : 0 < s.pages.opened → TakesReturned (lane_of table v s) (lane_of table_now w u)
      took-takes low =
          let empty : (the_lane v).chain ≡ [] = subst (λ (one : Option Place). IsFirst one (the_lane v).chain) none fits.stores.first in
          subst (λ (lane : LaneOf). TakesReturned (lane_of table v s) lane) (sym took-lane) (record {
            none = λ why. absurd (⊎_elim (λ (full : (the_lane v).chain ≢ []). full empty) (λ (zero : s.pages.opened ≡ 0). omega (arith, zero, low)) why);
            some = λ _ _. (found, collects, λ zero. absurd (some zero));
            same = (same, refl, refl, refl);
            list = ap (λ (f : FreePlaces). f.own) hangs.list;
            pages = refl;
          })

      pub took-fillings : (filling : FillingOf T) → Made (lane_of table v s) filling → Made (lane_of table_now w u) filling
      took-fillings filling made =
          let p : ℕ = place_of filling.key in
          let spared = uncollected fits.stores fits.seat.paired fits.seat.own took-passes p (made.place.with_lane ∙ ap with fits.seat.number_is) in
          subst (λ (lane : LaneOf). Made lane filling) (sym took-lane)
          (made-passes (lane_of table v s) (lane_of table_now w (record s { free = u.free })) filling took-passes fits.seat (same, refl, refl, refl)
          (t.went.under ∙ fits.seat.idle) spared.0 spared.1
          (λ one within is. made.place.unlisted one (subst (λ (f : FreePlaces). Contains f.own one) hangs.list within) is)
          (ap (λ (ps : List ℕ). has ps p) took-chain ∙ spared.0) (omega arith) made)

-- where none were found all is as before
module _ {T : Type 0} {content : T → List ℕ} {room : T → ℕ} {v w : View} {s : LaneState T} (fits : Fits content room s.shape v s) {found : ℕ}
    (zero : found ≡ 0) (collects : Collects {S = Unit {0}} s.shape s.pages.opened found (v, []) (w, [])) where
  none-record : the_lane w ≡ the_lane v
  none-record = (collects.none zero).1

  none-chain : (the_lane w).chain ≡ (the_lane v).chain
  none-chain = ap (λ (r : LaneRecord). r.chain) none-record

  none-passes : Passes s.shape (λ p. false) [] v w
  none-passes = went-passes (subst (λ (made : List Act). Went s.shape made v w) (collects.none zero).0 collects.went)
      (λ p number off. ap (λ (r : LaneRecord). status_of r p number) none-record) (λ p off. ap (λ (r : LaneRecord). known_of r p) none-record)

  none-idle : (the_lane w).under ≡ (the_lane v).under
  none-idle = ap (λ (r : LaneRecord). r.under) none-record

  pub none-fits : Fits content room s.shape w s
  none-fits = record {
    shape_is = fits.shape_is;
    placed = fits.placed;
    seat = seat-passes fits.seat none-passes (none-idle ∙ fits.seat.idle) (λ place inside other. refl) (λ place inside is. inl (refl, is));
    last_pushed = last_pushed-same fits.last_pushed (ap (λ (r : LaneRecord). r.pushed) none-record);
    rows = rows-pass none-passes fits.seat.own fits.rows (λ place row inside stands fit. ((λ some. refl), (λ key n here. refl))) refl;
    stores = stores-still fits.stores {place = 0} fits.seat.paired fits.seat.own none-chain (onlyat-none 0) none-passes (All-nil (λ act. gives_away act 0 ≡ false));
    rights = fits.rights;
    standing = fits.standing;
  }

  module _ (table table_now : TableId) (same : table_now ≡ table) where
    pub none-takes : s.free.chain ≡ None → 0 < s.pages.opened → TakesReturned (lane_of table v s) (lane_of table_now w s)
    none-takes none low =
        let empty : (the_lane v).chain ≡ [] = subst (λ (one : Option Place). IsFirst one (the_lane v).chain) none fits.stores.first in record {
          none = λ why. absurd (⊎_elim (λ (full : (the_lane v).chain ≢ []). full empty) (λ (is : s.pages.opened ≡ 0). omega (arith, is, low)) why);
          some = λ _ _. (found, collects, λ _. refl);
          same = (same, refl, refl, refl);
          list = refl;
          pages = refl;
        }

    pub none-fillings : (filling : FillingOf T) → Made (lane_of table v s) filling → Made (lane_of table_now w s) filling
    none-fillings filling made =
        made-still {was = lane_of table v s} {new = lane_of table_now w s} none-passes fits.seat (same, refl, refl, refl) refl refl refl filling (none-idle ∙ fits.seat.idle) none-chain made
