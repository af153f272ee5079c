-- What a lane is once it gathered a row of bits, and once it listed a place of it.
use Rattle.std.proofs.Common.{◌≡◌, ◌≢◌, ◌⊎◌, ⊎_elim, ℕ, ◌+◌, ◌<◌, ◌≤◌, Bool, true, false, cond, eqb, List, [], ◌∷◌, ◌++◌, map, length, Option, Some, None, refl, ap, sym, ◌∙◌, subst, arith, append_assoc, append-nil, length-append, eq-eqb, ne_eqb, inl, inr}
use Rattle.std.specs.List.{All, Contains}
use Rattle.std.proofs.lemmas.Bool.{cases_Bool, cases_lt}
use Rattle.std.proofs.lemmas.List.{map-append, nil_from_length, length-map}
use Rattle.std.proofs.lemmas.List.Elements.{All-nil, All-cons, Contains-push_cases}
use mathlib.Core.Logic.{dite}
use native.Mathlib.Decide.{ℕ_discrete}
use Rattle.atomic_table.specs.Seated.{TableId}
use Rattle.atomic_table.specs.Table.{Me}
use Rattle.keybits.specs.declared.shape.Shape.{Shape}
use Rattle.keybits.specs.declared.place.Place.{Place}
use Rattle.keybits.specs.Places.{page_of, number_of}
use Rattle.keybits.specs.Keys.{place_of}
use Rattle.keybits.specs.Rows.{set_places}
use Rattle.steplaws.specs.Facts.{guest_home}
use Rattle.steplaws.specs.StepLaws.{row_of}
use Rattle.freelists.specs.Shards.{place_numbered}
use denote.RawPtr.{Ptr}
use Rattle.freelists.specs.Queues.{FreePlaces, AreFree, IsAway}
use Rattle.seqpool.specs.declared.act.Act.{Act}
use Rattle.seqpool.specs.declared.act.Act.TheVariants as acts
use Rattle.seqpool.specs.Pool.{with, Spot, Pool, has, Allowed, fresh, pool_after, IsLegal, retired}
use Rattle.seqpool.proofs.Growth.{legal-rest, pool-snoc, after-here}
use Rattle.poolsteps.specs.declared.view.Stored.{Stored}
use Rattle.poolsteps.specs.PlaceLaws.{gives_away}
use Rattle.poolsteps.specs.Shares.{at_rest}
use Rattle.poolsteps.specs.declared.view.LaneRecord.{LaneRecord}
use Rattle.poolsteps.specs.declared.view.View.{View}
use Rattle.poolsteps.specs.Views.{head_record, the_lane, status_of, known_of}
use Rattle.poolsteps.specs.ViewLaws.{references_made}
use Rattle.poolsteps.specs.Told.{RowSteps, references_seen}
use Rattle.poolsteps.specs.Returned.{Gathers, NoneGiven, gathered_record}
use Rattle.seatcalls.specs.Carried.{Carries, AreEmptied}
use Rattle.seatcalls.specs.Left.{held_after, has_retired}
use Rattle.seatcalls.specs.Taken.{Went}
use Rattle.seatcalls.proofs.parts.OtherShards.{NoneAbroad, abroad-one}
use Rattle.seatcalls.proofs.parts.Frames.{Passes}
use Rattle.seatcalls.proofs.parts.Going.{went-goes, even-in, went-carries}
use Rattle.seatcalls.proofs.parts.RetiredPlaces.{Retires, retires-else, retired-phase}
use Rattle.shardpool.specs.declared.pool.LaneState.{LaneState}
use Rattle.shardpool.specs.Tokens.{LaneOf, FillingOf}
use Rattle.shardpool.specs.Places.{IsBlank, IsResting}
use Rattle.seqpool.specs.Histories.{acts_of}
use Rattle.seqpool.proofs.Growth.{acts-append}
use Rattle.shardpool.specs.Lanes.{holds, IsFilling, SeesOn, Made}
use Rattle.shardpool.specs.LaneStates.{FitsStores, Fits}
use Rattle.shardpool.specs.Rows.{AreStanding}
use Rattle.shardpool.specs.Stores.{KeepsOwn}
use Rattle.shardpool.specs.Gathers.{gather_acts, IsGathered, Brings, GathersRow, ListsGathered, AfterGather, GathersAll}
use Rattle.shardpool.proofs.parts.Collecting.{all-here}
use Rattle.shardpool.proofs.count.Given.{set-none}
use Rattle.shardpool.proofs.frame.LaneFacts.{lane_of}
use Rattle.shardpool.proofs.frame.LaneFrames.{passes-refs, passes-carries, onlyat-none}
use Rattle.shardpool.proofs.frame.KeptPlaces.{seat-passes, last_pushed-same, spot-passes, still-with, resting-passes}
use Rattle.shardpool.proofs.frame.SeenHistories.{made-passes}
use Rattle.shardpool.proofs.frame.Standing.{sees-on}
use Rattle.shardpool.proofs.free.EmptiedRows.{given-taken}
use Rattle.shardpool.proofs.free.Stores.{Spared, SparesFree, IsApart, stores-pass, stores-apart, stores-kept, apart-away, numbered}
use Rattle.shardpool.proofs.free.Rights.{rights-set}
use Rattle.shardpool.proofs.free.Chains.{rest-full, uncollected, known-with, taken-deeds, taken-cells}
use Rattle.shardpool.proofs.free.Takes.{no-references, unheld}
use Rattle.shardpool.proofs.references.Rows.{rows-pass}

-- ---- GATHER

-- what a GATHER of a row whose word was this leaves of the lane's view
pub record Gathered (z : Shape) (row word : ℕ) (v w : View) : Type 0 where
  pub went : Went z (gather_acts (the_lane v).lane row word) v w
  pub deeds : (p number : ℕ) → has (set_places (the_lane v).lane row word) p ≡ false → status_of (the_lane w) p number ≡ status_of (the_lane v) p number
  pub cells : (p : ℕ) → has (set_places (the_lane v).lane row word) p ≡ false → known_of (the_lane w) p ≡ known_of (the_lane v) p
  pub chain : (the_lane w).chain ≡ (the_lane v).chain
  pub rests : (p : ℕ) → has (set_places (the_lane v).lane row word) p ≡ true → IsResting z w p
  pub given : (p : ℕ) → guest_home z v.seen (the_lane v).lane p ≡ true → row_of p ≡ row → has (set_places (the_lane v).lane row word) p ≡ true
  pub steps : w.steps ≡ v.steps + 1
  pub looks : w.looks ≡ v.looks

-- it made no act, or collected the places
either-acts : (lane row word : ℕ) → (gather_acts lane row word ≡ []) ⊎ (gather_acts lane row word ≡ acts.Collect lane (set_places lane row word) ∷ [])
either-acts lane row word = dite (ℕ_discrete word 0)
    (λ (zero : word ≡ 0). inl (ap (λ (b : Bool). cond b [] (acts.Collect lane (set_places lane row word) ∷ [])) (eq-eqb word 0 zero)))
    (λ (some : word ≢ 0). inr (ap (λ (b : Bool). cond b [] (acts.Collect lane (set_places lane row word) ∷ [])) (ne_eqb word 0 some)))

module _ {S : Type 0} {z : Shape} (row : ℕ) {word : ℕ} {a b : Me S View} (gathers : Gathers z row a word b) where
  pub gathered-held : b.1 ≡ a.1
  gathered-held = dite (ℕ_discrete word 0) (λ (zero : word ≡ 0). (gathers.0 zero).held) (λ (some : word ≢ 0). (gathers.1 some).2.held)

module _ {S : Type 0} {z : Shape} (row : ℕ) {word : ℕ} {a b : Me S View} (gathers : Gathers z row a word b) (left : NoneGiven z b.0.seen (the_lane a.0).lane row) where
  abbrev own : ℕ
  own = (the_lane a.0).lane

  abbrev places : List ℕ
  places = set_places own row word

  module _ (zero : word ≡ 0) where
    abbrev none : RowSteps z a b None (the_lane a.0)
    none = gathers.0 zero

    none-gathered : Gathered z row word a.0 b.0
    none-gathered =
        let now : the_lane b.0 ≡ the_lane a.0 = ap head_record none.goes.lanes in record {
          went = subst (λ (made : List Act). Went z made a.0 b.0) (sym (ap (λ (b : Bool). cond b [] (acts.Collect own places ∷ [])) (eq-eqb word 0 zero)))
              (went-goes none.goes refl refl (sym (append-nil (the_lane a.0).mine)) refl refl);
          deeds = λ p number off. ap (λ (r : LaneRecord). status_of r p number) now;
          cells = λ p off. ap (λ (r : LaneRecord). known_of r p) now;
          chain = ap (λ (r : LaneRecord). r.chain) now;
          rests = λ p in_it. let nowhere : false ≡ true = sym (ap (λ (ps : List ℕ). has ps p) (set-none own row word zero)) ∙ in_it in absurd (cc nowhere);
          given = given-taken z a.0.seen none.goes.between [] own row places (subst (IsLegal z) none.goes.seen none.goes.legal) none.goes.others (inl refl)
              (subst (λ (h : List Act). NoneGiven z h own row) none.goes.seen left);
          steps = none.steps;
          looks = none.looks;
        }

  module _ (some : word ≢ 0) where
    abbrev stored : ℕ → Stored
    stored = (gathers.1 some).0

    abbrev act : Act
    act = acts.Collect own places

    abbrev steps-some : RowSteps z a b (Some act) (gathered_record (the_lane a.0) places stored)
    steps-some = (gathers.1 some).2

    abbrev earlier : List Act
    earlier = a.0.seen ++ steps-some.goes.between

    act-allowed : Allowed z (pool_after z earlier) act
    act-allowed = (legal-rest z fresh earlier (act ∷ []) (subst (IsLegal z) steps-some.goes.seen steps-some.goes.legal)).1

    record-after : the_lane b.0 ≡ gathered_record (the_lane a.0) places stored
    record-after = ap head_record steps-some.goes.lanes

    some-rests : (p : ℕ) → has places p ≡ true → IsResting z b.0 p
    some-rests p in_it =
        let here = all-here z (pool_after z earlier) own places p act-allowed.2 in_it in
        let lane : own ≡ (the_lane b.0).lane = sym (ap (λ (r : LaneRecord). r.lane) record-after) in
        let facts = (gathers.1 some).1 p in_it in
        let known : known_of (the_lane b.0) p ≡ stored p = ap (λ (r : LaneRecord). known_of r p) record-after
        ∙ (known-with stored places (the_lane a.0).cells p ∙ ap (λ (b : Bool). cond b (stored p) (known_of (the_lane a.0) p)) in_it) in
        let roomy = ap (λ (c : Stored). c.room) known in
        let least = facts.2 in record {
          inside = here.0;
          own = here.1 ∙ lane;
          with_lane = ap (λ (h : List Act). (pool_after z h p).phase) steps-some.goes.seen
              ∙ (ap (λ (P : Pool). (P p).phase) (pool-snoc z fresh earlier act) ∙ (ap (λ (s : Spot). s.phase) (after-here z (pool_after z earlier) act p in_it) ∙ ap with lane));
          rests = λ number below. ap (λ (r : LaneRecord). status_of r p number) record-after
              ∙ ap (λ (b : Bool). cond b (at_rest p number) (status_of (the_lane a.0) p number)) in_it;
          empty = ap (λ (c : Stored). c.content) known ∙ facts.1;
          room = omega (arith, least, roomy);
        }

    some-gathered : Gathered z row word a.0 b.0
    some-gathered = record {
      went = subst (λ (made : List Act). Went z made a.0 b.0) (sym (ap (λ (b : Bool). cond b [] (act ∷ [])) (ne_eqb word 0 some)))
          (went-goes steps-some.goes (even-in (gathered_record (the_lane a.0) places stored) (Some act)) refl refl refl refl);
      deeds = λ p number off. ap (λ (r : LaneRecord). status_of r p number) record-after ∙ taken-deeds (the_lane a.0) places stored p number off;
      cells = λ p off. ap (λ (r : LaneRecord). known_of r p) record-after ∙ taken-cells (the_lane a.0) places stored p off;
      chain = ap (λ (r : LaneRecord). r.chain) record-after;
      rests = some-rests;
      given = given-taken z a.0.seen steps-some.goes.between (act ∷ []) own row places (subst (IsLegal z) steps-some.goes.seen steps-some.goes.legal) steps-some.goes.others
          (inr refl) (subst (λ (h : List Act). NoneGiven z h own row) steps-some.goes.seen left);
      steps = steps-some.steps;
      looks = steps-some.looks;
    }

  pub gathered : Gathered z row word a.0 b.0
  gathered = dite (ℕ_discrete word 0) none-gathered some-gathered

-- ---- what the lane keeps then still fits

module _ {T : Type 0} {content : T → List ℕ} {room : T → ℕ} {v w : View} {s : LaneState T} {row word : ℕ} (fits : Fits content room s.shape v s) (g : Gathered s.shape row word v w) where
  abbrev lane : ℕ
  lane = (the_lane v).lane

  abbrev these : List ℕ
  these = set_places lane row word

  abbrev made : List Act
  made = gather_acts lane row word

  passes : Passes s.shape (has these) made v w
  passes = record { acted = g.went.acted; deeds = g.deeds; cells = g.cells }

  -- what holds of no act and of the one that collects holds of the acts
  by-acts : (P : List Act → Type 0) → P [] → P (acts.Collect lane these ∷ []) → P made
  by-acts P none some = ⊎_elim (λ is. subst P (sym is) none) (λ is. subst P (sym is) some) (either-acts lane row word)

  keeps : (p : ℕ) → All (λ act. gives_away act p ≡ false) made
  keeps p = by-acts (λ (acts : List Act). All (λ act. gives_away act p ≡ false) acts) (All-nil (λ act. gives_away act p ≡ false))
      (All-cons (λ act. gives_away act p ≡ false) (acts.Collect lane these) [] refl (All-nil (λ act. gives_away act p ≡ false)))

  -- a place that was with the lane is none of those that it gathered
  spared : (p : ℕ) → (pool_after s.shape v.seen p).phase ≡ with lane → Spared (has these) made p
  spared p is = (
    ⊎_elim
        (λ (in_it : has these p ≡ true).
        let rests = g.rests p in_it in
        absurd (collected-not p in_it is))
        (λ (isnt : has these p ≡ false). isnt)
        (cases_Bool (has these p)),
    keeps p,
  )
    where
      collected-not : (p : ℕ) → has these p ≡ true → (pool_after s.shape v.seen p).phase ≡ with lane → ⊥
      collected-not p in_it is = ⊎_elim
          (λ (none : made ≡ []).
          let off : has these p ≡ false = dite (ℕ_discrete word 0)
          (λ (zero : word ≡ 0). ap (λ (ps : List ℕ). has ps p) (set-none lane row word zero))
          (λ (some : word ≢ 0).
          let bad : [] ≡ acts.Collect lane these ∷ [] = sym none ∙ ap (λ (b : Bool). cond b [] (acts.Collect lane these ∷ [])) (ne_eqb word 0 some) in absurd (cc bad)) in
          let bad : true ≡ false = sym in_it ∙ off in cc bad)
          (λ (one : made ≡ acts.Collect lane these ∷ []).
          let as_one : Passes s.shape (has these) (acts.Collect lane these ∷ []) v w = subst (λ (acts : List Act). Passes s.shape (has these) acts v w) one passes in
          let bad : true ≡ false = sym in_it ∙ (uncollected fits.stores fits.seat.paired fits.seat.own as_one p is).0 in cc bad)
          (either-acts lane row word)

  alone : NoneAbroad s.shape s.number made
  alone = by-acts (NoneAbroad s.shape s.number) (λ p within other. refl)
      (abroad-one s.shape s.number (acts.Collect lane these) (λ p within other. ⊎_elim
      (λ (in_it : has these p ≡ true). absurd (other ((g.rests p in_it).own ∙ (g.went.acted.lane ∙ sym fits.seat.number_is))))
      (λ (isnt : has these p ≡ false). isnt)
      (cases_Bool (has these p))))

  retires : Retires s.shape (has these) made v w
  retires p inside is = ⊎_elim
      (λ (in_it : has these p ≡ true). inr (g.rests p in_it).rests)
      (λ (isnt : has these p ≡ false). inl (
        isnt,
        by-acts (λ (acts : List Act). has_retired s.shape p acts (has_retired s.shape p (the_lane v).mine false) ≡ true → has_retired s.shape p (the_lane v).mine false ≡ true)
            (λ was. was) (λ was. sym (ap (λ (b : Bool). cond b false (has_retired s.shape p (the_lane v).mine false)) isnt) ∙ was) is,
      ))
      (cases_Bool (has these p))

  spares : SparesFree s.shape v s.free s.pages (has these) made
  spares = record {
    listed = λ at within. spared (number_of at) (fits.stores.listed at within).blank.with_lane;
    unopened = λ p inside own high. spared p (fits.stores.unopened p inside own high).with_lane;
    chained = λ p in_it. spared p (fits.stores.chained p in_it).0.with_lane;
  }

  pub gathered-fits : Fits content room s.shape w s
  gathered-fits = record {
    shape_is = fits.shape_is;
    placed = fits.placed;
    seat = seat-passes fits.seat passes (g.went.under ∙ fits.seat.idle) alone retires;
    last_pushed = last_pushed-same fits.last_pushed g.went.pushed;
    rows = rows-pass passes fits.seat.own fits.rows
        (λ p row inside is fit. (
          (λ held. ⊎_elim
              (λ (in_it : has these p ≡ true). absurd (unheld fit
              (λ key here. sym (passes-refs passes fits.seat.own key ∙ no-change key) ∙ no-references s.shape w key p (g.rests p in_it).with_lane here) held))
              (λ (isnt : has these p ≡ false). isnt)
              (cases_Bool (has these p))),
          (λ key n here. by-acts (λ (acts : List Act). references_made acts key n ≡ n) refl refl),
        )) (by-acts (λ (acts : List Act). held_after acts s.references ≡ s.references) refl refl);
    stores = stores-pass fits.stores passes fits.seat.paired fits.seat.own g.chain spares;
    rights = fits.rights;
    standing = fits.standing;
  }
    where
      no-change : (key : ℕ) → references_made made key (references_seen s.shape v key) ≡ references_seen s.shape v key
      no-change key = by-acts (λ (acts : List Act). references_made acts key (references_seen s.shape v key) ≡ references_seen s.shape v key) refl refl

  module _ (table table_now : TableId) (same : table_now ≡ table) where
    abbrev old : LaneOf
    old = lane_of table v s

    abbrev new : LaneOf
    new = lane_of table_now w s

    -- a gathered place is none of the free ones
    apart-from : (p : ℕ) → has these p ≡ true → (pool_after s.shape v.seen p).phase ≡ with lane → ⊥
    apart-from p in_it is = let bad : true ≡ false = sym in_it ∙ (spared p is).0 in cc bad

    gathered-place : (p : ℕ) → has these p ≡ true → IsGathered new p
    gathered-place p in_it =
        let rests = g.rests p in_it in
        let number : (the_lane w).lane ≡ s.number = g.went.acted.lane ∙ sym fits.seat.number_is in record {
          filling = record {
            inside = rests.inside;
            own = rests.own ∙ number;
            opened = ⊎_elim (λ (low : page_of p < s.pages.opened). low)
                (λ (high : s.pages.opened ≤ page_of p). absurd (apart-from p in_it (fits.stores.unopened p rests.inside (rests.own ∙ g.went.acted.lane) high).with_lane))
                (cases_lt (page_of p) s.pages.opened);
            with_lane = rests.with_lane ∙ ap with number;
            unlisted = λ at within is. apart-from p in_it (subst (λ (q : ℕ). (pool_after s.shape v.seen q).phase ≡ with lane) is (fits.stores.listed at within).blank.with_lane);
            unchained = ⊎_elim
                (λ (on : has (the_lane w).chain p ≡ true).
                absurd (apart-from p in_it (fits.stores.chained p (sym (ap (λ (ps : List ℕ). has ps p) g.chain) ∙ on)).0.with_lane))
                (λ (isnt : has (the_lane w).chain p ≡ false). isnt)
                (cases_Bool (has (the_lane w).chain p));
          };
          rests = rests;
        }

    pub gathers-row : GathersRow row word old new
    gathers-row = record {
      brings = subst (λ (l : ℕ). Brings (gather_acts l row word) [] old new) (sym fits.seat.number_is) (record {
        goes = sees-on s.shape old new refl g.went.acted fits.seat.own;
        same = (same, refl, refl, refl);
        lane = g.went.acted.lane;
        mine = g.went.acted.mine;
        held = λ key. passes-refs passes fits.seat.own key ∙ by-acts (λ (acts : List Act). references_made acts key (holds old key) ≡ holds old key) refl refl;
        list = ap (λ (own : List Place). record s.free { own = own }) (sym (append-nil s.free.own));
        pages = refl;
      });
      gathered = λ p in_it. gathered-place p (ap (λ (l : ℕ). has (set_places l row word) p) (sym fits.seat.number_is) ∙ in_it);
      given = subst (λ (l : ℕ). (p : ℕ) → guest_home s.shape v.seen l p ≡ true → row_of p ≡ row → has (set_places l row word) p ≡ true) (sym fits.seat.number_is) g.given;
      steps = g.steps;
      looks = g.looks;
    }

    pub gathered-fillings : (filling : FillingOf T) → Made old filling → Made new filling
    gathered-fillings filling is =
        let p : ℕ = place_of filling.key in
        let off = spared p (is.place.with_lane ∙ ap with fits.seat.number_is) in
        made-passes old new filling passes fits.seat (same, refl, refl, refl) (g.went.under ∙ fits.seat.idle) off.0 off.1 is.place.unlisted
        (ap (λ (ps : List ℕ). has ps p) g.chain ∙ is.place.unchained) (omega arith) is

-- ---- a gathered place is listed

module _ {T : Type 0} {content : T → List ℕ} {room : T → ℕ} {S : Type 0} {a b : Me S View} {s : LaneState T} {place : ℕ} (table : TableId) (fits : Fits content room s.shape a.0 s)
    (is : IsFilling (lane_of table a.0 s) place) (rests : IsResting s.shape a.0 place) (carries : Carries s.shape place 2 a b) (emptied : AreEmptied s.shape (the_lane b.0) place) where
  abbrev v : View
  v = a.0

  abbrev w : View
  w = b.0

  moved : Passes s.shape (λ p. eqb p place) [] v w
  moved = passes-carries carries

  went : Went s.shape [] v w
  went = went-carries carries

  no-acts : (p : ℕ) → All (λ act. gives_away act p ≡ false) []
  no-acts p = All-nil (λ act. gives_away act p ≡ false)

  same-chain : (the_lane w).chain ≡ (the_lane v).chain
  same-chain = carries.elsewhere.chain

  same-lane : (the_lane w).lane ≡ (the_lane v).lane
  same-lane = carries.elsewhere.lane

  apart : IsApart s.shape v s.free s.pages place
  apart = record { unlisted = is.unlisted; opened = λ inside own. is.opened; unchained = is.unchained }

  pub list-away : IsAway s.free (place_numbered place)
  list-away = apart-away fits.stores place rests.inside rests.own apart

  blank : IsBlank s.shape w place (known_of (the_lane v) place).room
  blank =
      let same = (spot-passes moved.acted fits.seat.paired fits.seat.own place rests.with_lane (no-acts place)).1 in
      let roomy = rests.room in record {
        with_lane = still-with moved.acted fits.seat.paired fits.seat.own place rests.with_lane (no-acts place);
        emptied = emptied;
        room = omega (arith, same, roomy);
      }

  module _ {object : T} (shown : content object ≡ (known_of (the_lane v) place).content) (roomy : room object ≡ (known_of (the_lane v) place).room)
      {t : LaneState T} (kept : KeepsOwn place object s t) where
    abbrev mid : LaneState T
    mid = record s { objects = t.objects; free = t.free }

    listed-stores : FitsStores content room s.shape w t.free s.pages t.objects.items
    listed-stores =
        let before = stores-apart fits.stores fits.seat.paired fits.seat.own same-chain (onlyat-none place) moved apart in
        let now = stores-kept before {place = place} {object = object} (subst AreFree kept.list kept.free) rests.inside is.opened is.unlisted
        (record { with_lane = blank.with_lane; emptied = blank.emptied; room = let least = blank.room in omega (arith, least, roomy) }) (shown ∙ rests.empty) in
        subst (λ (f : FreePlaces). FitsStores content room s.shape w f s.pages t.objects.items) (sym kept.list)
        (subst (λ (x : List (Option T)). FitsStores content room s.shape w (record s.free { own = s.free.own ++ place_numbered place ∷ [] }) s.pages x) (sym kept.objects) now)

    listed-mid : Fits content room s.shape w mid
    listed-mid = record {
      shape_is = fits.shape_is;
      placed = fits.placed;
      seat = seat-passes fits.seat moved (went.under ∙ fits.seat.idle) (λ p within other. refl)
          (retires-else s.shape place [] v w (onlyat-none place) (λ was.
          let bad : with (the_lane v).lane ≡ retired
          = sym rests.with_lane ∙ retired-phase s.shape v.seen (the_lane v).mine (the_lane v).lane place fits.seat.legal fits.seat.own was in absurd (cc bad)));
      last_pushed = last_pushed-same fits.last_pushed went.pushed;
      rows = rows-pass moved fits.seat.own fits.rows
          (λ p row inside stands fit. (
            (λ some. ne_eqb p place (λ same. unheld fit (λ key here. no-references s.shape v key place rests.with_lane (here ∙ same)) some)),
            (λ key n here. refl),
          )) refl;
      stores = listed-stores;
      rights = rights-set {new = t.objects} fits.rights fits.seat.shape place true rests.inside (rests.own ∙ sym fits.seat.number_is) is.opened kept.same.1 kept.rights;
      standing = subst (λ (d : Ptr). AreStanding d s.rows.items) (sym kept.same.0) fits.standing;
    }

    pub listed-fits : Fits content room t.shape w t
    listed-fits = subst (λ (x : LaneState T). Fits content room x.shape w x) (sym kept.rest) listed-mid

    module _ (table_now : TableId) (same : table_now ≡ table) where
      abbrev old_lane : LaneOf
      old_lane = lane_of table v s

      abbrev new_mid : LaneOf
      new_mid = lane_of table_now w mid

      new-lane : lane_of table_now w t ≡ new_mid
      new-lane = ap (λ (x : LaneState T). lane_of table_now w x) kept.rest

      -- what is on the list then
      on-list : (at : Place) → Contains t.free.own at → (Contains s.free.own at) ⊎ (place_numbered place ≡ at)
      on-list at within = Contains-push_cases s.free.own (place_numbered place) at (subst (λ (f : FreePlaces). Contains f.own at) kept.list within)

      off-list : (p : ℕ) → (p ≡ place → ⊥) → ((at : Place) → Contains s.free.own at → number_of at ≡ p → ⊥) → (at : Place) → Contains t.free.own at → number_of at ≡ p → ⊥
      off-list p other none at within here = ⊎_elim
          (λ (was : Contains s.free.own at). none at was here)
          (λ (now : place_numbered place ≡ at). other (sym here ∙ (ap number_of (sym now) ∙ numbered place)))
          (on-list at within)

      other-stays : (p : ℕ) → (p ≡ place → ⊥) → IsGathered old_lane p → IsGathered new_mid p
      other-stays p other gathered_p =
          let f = gathered_p.filling in record {
            filling = record {
              inside = f.inside;
              own = f.own;
              opened = f.opened;
              with_lane = still-with moved.acted fits.seat.paired fits.seat.own p (f.with_lane ∙ ap with fits.seat.number_is) (no-acts p)
                  ∙ ap with (same-lane ∙ sym fits.seat.number_is);
              unlisted = off-list p other f.unlisted;
              unchained = ap (λ (ps : List ℕ). has ps p) same-chain ∙ f.unchained;
            };
            rests = resting-passes moved fits.seat.paired fits.seat.own gathered_p.rests (ne_eqb p place other) (no-acts p);
          }

      pub lists-gathered : ListsGathered place old_lane (lane_of table_now w t)
      lists-gathered = subst (λ (lane : LaneOf). ListsGathered place old_lane lane) (sym new-lane) (record {
        brings = record {
          goes = sees-on s.shape old_lane new_mid refl moved.acted fits.seat.own;
          same = (same, refl, refl, kept.same.0);
          lane = same-lane;
          mine = moved.acted.mine;
          held = λ key. passes-refs moved fits.seat.own key;
          list = kept.list;
          pages = refl;
        };
        others = other-stays;
        steps = carries.steps;
        looks = carries.looked;
      })

      pub listed-fillings : (filling : FillingOf T) → Made old_lane filling → Made (lane_of table_now w t) filling
      listed-fillings filling made_it =
          let p : ℕ = place_of filling.key in
          let below : (the_lane v).lane < s.shape.lanes = subst (λ (n : ℕ). n < s.shape.lanes) fits.seat.number_is fits.seat.below in
          let other : p ≡ place → ⊥ = λ here. rest-full s.shape v place below rests (subst (λ (q : ℕ). AreEmptied s.shape (the_lane v) q) here made_it.emptied) in
          subst (λ (lane : LaneOf). Made lane filling) (sym new-lane)
          (made-passes old_lane new_mid filling moved fits.seat (same, refl, refl, kept.same.0) (went.under ∙ fits.seat.idle)
          (ne_eqb p place other) (no-acts p) (off-list p other made_it.place.unlisted) (ap (λ (ps : List ℕ). has ps p) same-chain ∙ made_it.place.unchained) (omega arith) made_it)

-- ---- one after another

sees-more : {made more : List Act} {x y z : LaneOf} → (the_lane y.book).lane ≡ (the_lane x.book).lane → SeesOn made x y → SeesOn more y z → SeesOn (made ++ more) x z
sees-more {made} {more} {x} {y} {z} lane first second =
    let l : ℕ = (the_lane x.book).lane in
    let second_own : acts_of l second.more ≡ more = ap (λ (n : ℕ). acts_of n second.more) (sym lane) ∙ second.own in
    let kept = length-append first.kept second.kept in
    let acts = length-append first.more second.more in
    let one = first.paired in
    let two = second.paired in record {
      more = first.more ++ second.more;
      seen = second.seen ∙ (ap (λ (xs : List Act). xs ++ second.more) first.seen ∙ append_assoc x.book.seen first.more second.more);
      own = acts-append l first.more second.more ∙ (ap (λ (xs : List Act). xs ++ acts_of l second.more) first.own ∙ ap (λ (xs : List Act). made ++ xs) second_own);
      kept = first.kept ++ second.kept;
      rooms = second.rooms ∙ (ap (λ (xs : List ℕ). xs ++ second.kept) first.rooms ∙ append_assoc x.book.rooms first.kept second.kept);
      paired = omega (arith, kept, acts, one, two);
      legal = second.legal;
    }

pub brings-none : (x : LaneOf) → IsLegal x.shape x.book.seen → Brings [] [] x x
brings-none x legal = record {
  goes = record {
    more = [];
    seen = sym (append-nil x.book.seen);
    own = refl;
    kept = [];
    rooms = sym (append-nil x.book.rooms);
    paired = refl;
    legal = legal;
  };
  same = (refl, refl, refl, refl);
  lane = refl;
  mine = sym (append-nil (the_lane x.book).mine);
  held = λ key. refl;
  list = ap (λ (own : List Place). record x.free { own = own }) (sym (append-nil x.free.own));
  pages = refl;
}

pub brings-more : {made more : List Act} {places others : List ℕ} {x y z : LaneOf} → Brings made places x y → Brings more others y z → Brings (made ++ more) (places ++ others) x z
brings-more {made} {more} {places} {others} {x} {y} {z} first second = record {
  goes = sees-more first.lane first.goes second.goes;
  same = (second.same.0 ∙ first.same.0, second.same.1 ∙ first.same.1, second.same.2 ∙ first.same.2, second.same.3 ∙ first.same.3);
  lane = second.lane ∙ first.lane;
  mine = second.mine ∙ (ap (λ (xs : List Act). xs ++ more) first.mine ∙ append_assoc (the_lane x.book).mine made more);
  held = λ key. second.held key ∙ first.held key;
  list = second.list ∙ (ap (λ (f : FreePlaces). record f { own = f.own ++ map place_numbered others }) first.list
      ∙ ap (λ (own : List Place). record x.free { own = own })
      (append_assoc x.free.own (map place_numbered places) (map place_numbered others) ∙ ap (λ (l : List Place). x.free.own ++ l) (sym (map-append place_numbered places others))));
  pages = second.pages ∙ first.pages;
}

-- ---- rows, one after another

pub gathers-append : (rows more : List ℕ) (x y z : LaneOf) → GathersAll rows x y → GathersAll more y z → GathersAll (rows ++ more) x z
gathers-append [] more x y z first then = subst (λ (lane : LaneOf). GathersAll more lane z) first then
gathers-append (row ∷ rows) more x y z first then = (first.0, first.1, first.2, gathers-append rows more first.1 y z first.3 then)

pub gathers-one : (row count : ℕ) (x y : LaneOf) → AfterGather row x y count → GathersAll (row ∷ []) x y
gathers-one row count x y after = (count, y, after, refl)

-- what was brought stands on the list
pub none-brought : {row count : ℕ} {x y : LaneOf} → AfterGather row x y count → count ≡ 0 → x.free.own ≡ [] → y.free.own ≡ []
none-brought {row} {count} {x} {y} after zero empty =
    let places : List ℕ = set_places x.number row after.word in
    let none : places ≡ [] = nil_from_length places (after.counts ∙ zero) in
    ap (λ (f : FreePlaces). f.own) after.brings.list ∙ (ap (λ (own : List Place). own ++ map place_numbered places) empty ∙ ap (λ (l : List ℕ). map place_numbered l) none)

pub some-brought : {row count : ℕ} {x y : LaneOf} → AfterGather row x y count → 0 < count → y.free.own ≡ [] → ⊥
some-brought {row} {count} {x} {y} after some empty =
    let places : List ℕ = set_places x.number row after.word in
    let all = ap length (sym (ap (λ (f : FreePlaces). f.own) after.brings.list) ∙ empty) in
    let both = length-append x.free.own (map place_numbered places) in
    let same = length-map places place_numbered in
    let count_is = after.counts in
    omega (arith, all, both, same, count_is, some)
