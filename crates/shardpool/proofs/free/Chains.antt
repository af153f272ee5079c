-- How the free places of a lane fit what it has seen and did, when it takes a chain, and follows it.
use Rattle.std.proofs.Common.{◌≡◌, ◌≢◌, ◌⊎◌, ℕ, ◌<◌, ◌≤◌, Bool, true, false, cond, eqb, List, [], ◌∷◌, length, Option, Some, None, refl, ap, sym, ◌∙◌, subst, arith, inl, inr, ⊎_elim, get_or, eq-eqb, ne_eqb}
use Rattle.std.specs.List.{All, Contains}
use Rattle.std.proofs.lemmas.Bool.{cases_lt}
use Rattle.std.proofs.lemmas.List.Elements.{All-nil, All-cons, All-head}
use mathlib.Core.Logic.{dite}
use native.Mathlib.Decide.{ℕ_discrete}
use Rattle.keybits.specs.declared.shape.Shape.{Shape}
use Rattle.keybits.specs.declared.place.Place.{Place}
use Rattle.keybits.specs.Places.{shard_of, page_of, number_of}
use Rattle.keybits.specs.Shapes.{is_place}
use Rattle.keybits.specs.Links.{link_to}
use Rattle.keybits.proofs.LinkLemmas.{link_to-linked_place}
use Rattle.freelists.specs.Shards.{ShardPages, IsOwn, place_numbered}
use Rattle.freelists.specs.Queues.{FreePlaces, IsAway, GoesOnBy}
use Rattle.seqpool.specs.declared.act.Act.TheVariants as acts
use Rattle.seqpool.specs.Pool.{with, has, NoRepeats, pool_after}
use Rattle.seqpool.specs.Histories.{acts_of}
use Rattle.poolsteps.specs.declared.view.Status.TheVariants.{Emptied, Whole}
use Rattle.poolsteps.specs.Shares.{room_of, at_rest}
use Rattle.poolsteps.specs.PlaceLaws.{gives_away, brings}
use Rattle.poolsteps.specs.declared.view.Stored.{Stored}
use Rattle.poolsteps.specs.declared.view.LaneRecord.{LaneRecord}
use Rattle.poolsteps.specs.declared.view.View.{View}
use Rattle.poolsteps.specs.Views.{the_lane, known_in, status_of, known_of}
use Rattle.poolsteps.specs.Returned.{rest_of, with_cells, taken_record, LeadsTo}
use Rattle.seatcalls.specs.Carried.{AreEmptied}
use Rattle.shardpool.specs.Places.{IsBlank, IsResting}
use Rattle.shardpool.specs.LaneStates.{IsFirst, FitsStores}
use Rattle.seatcalls.proofs.parts.Frames.{Passes}
use Rattle.shardpool.proofs.frame.KeptPlaces.{spot-passes, still-with, none-brings, resting-passes}
use Rattle.shardpool.proofs.free.Stores.{Spared, stores-onto, own-numbered, numbered}

-- the slots of a place at rest are not all emptied
pub rest-full : (z : Shape) (v : View) (p : ℕ) → (the_lane v).lane < z.lanes → IsResting z v p → AreEmptied z (the_lane v) p → ⊥
rest-full z v p below rests emptied =
    let lane : ℕ = (the_lane v).lane in
    let whole : at_rest p lane ≡ Whole = ap (λ b. cond b Whole Emptied) (eq-eqb lane (shard_of p) (sym rests.own)) in
    let bad : Emptied ≡ Whole = sym (emptied lane (omega (arith, below))) ∙ (rests.rests lane (omega (arith, below)) ∙ whole) in cc bad

has-first : (place : ℕ) (more : List ℕ) → has (place ∷ more) place ≡ true
has-first place more = ap (λ (b : Bool). cond b true (has more place)) (eq-eqb place place refl)

has-later : (place : ℕ) (more : List ℕ) (p : ℕ) → has more p ≡ true → has (place ∷ more) p ≡ true
has-later place more p is = ap (λ (b : Bool). cond (eqb p place) true b) is ∙ either (eqb p place)
  where
    either : (b : Bool) → cond b true true ≡ true
    either true = refl
    either false = refl

-- a word that leads to these places is that of the first, or 0 where there is none
led : (z : Shape) (lane link : ℕ) (places : List ℕ) → LeadsTo z lane link places
    → ((places ≡ []) × (link ≡ 0)) ⊎ ((p : ℕ) × (has places p ≡ true) × (link ≡ link_to p) × (places ≡ p ∷ rest_of places))
led z lane link [] leads = inl (refl, leads)
led z lane link (p ∷ more) leads = inr (p, has-first p more, sym (ap link_to leads.2 ∙ link_to-linked_place lane link leads.0 leads.1), refl)

module _ {T : Type 0} {content : T → List ℕ} {room : T → ℕ} {z : Shape} {v : View} {free : FreePlaces} {pages : ShardPages} {objects : List (Option T)}
    (fits : FitsStores content room z v free pages objects) where
  -- a place at rest isn't listed
  pub rest-unlisted : (the_lane v).lane < z.lanes → (p : ℕ) → IsResting z v p → (at : Place) → Contains free.own at → number_of at ≢ p
  rest-unlisted below p rests at within same = rest-full z v p below rests (subst (λ q. AreEmptied z (the_lane v) q) same (fits.listed at within).blank.emptied)

  module _ {w : View} (paired : length v.rooms ≡ length v.seen) (own : (the_lane v).mine ≡ acts_of (the_lane v).lane v.seen) where
    module _ {lane : ℕ} {places : List ℕ} (passes : Passes z (has places) (acts.Collect lane places ∷ []) v w) where
      collect-keeps : (p : ℕ) → All (λ act. gives_away act p ≡ false) (acts.Collect lane places ∷ [])
      collect-keeps p = All-cons (λ act. gives_away act p ≡ false) (acts.Collect lane places) [] refl (All-nil (λ act. gives_away act p ≡ false))

      -- a place that was with the lane is none of those that it collects
      pub uncollected : (p : ℕ) → (pool_after z v.seen p).phase ≡ with (the_lane v).lane → Spared (has places) (acts.Collect lane places ∷ []) p
      uncollected p is = (
        All-head (λ act. brings act p ≡ false) (acts.Collect lane places) [] (none-brings passes.acted paired own p is (collect-keeps p)),
        collect-keeps p,
      )

      -- so none of these is listed
      pub collected-unlisted : (p : ℕ) → has places p ≡ true → (at : Place) → Contains free.own at → number_of at ≢ p
      collected-unlisted p in_it at within same =
          let isnt = (uncollected (number_of at) (fits.listed at within).blank.with_lane).0 in
          let bad : true ≡ false = sym in_it ∙ (ap (has places) (sym same) ∙ isnt) in cc bad

      -- and each is of an opened page
      pub collected-opened : (p : ℕ) → has places p ≡ true → is_place z p ≡ true → shard_of p ≡ (the_lane v).lane → page_of p < pages.opened
      collected-opened p in_it inside here = ⊎_elim (λ (low : page_of p < pages.opened). low)
          (λ (high : pages.opened ≤ page_of p).
          let bad : true ≡ false = sym in_it ∙ (uncollected p (fits.unopened p inside here high).with_lane).0 in absurd (cc bad))
          (cases_lt (page_of p) pages.opened)

      -- and it may hang
      pub collected-away : free.chain ≡ None → (p : ℕ) → has places p ≡ true → is_place z p ≡ true → shard_of p ≡ (the_lane v).lane → IsAway free (place_numbered p)
      collected-away none p in_it inside here = record {
        own = own-numbered fits p inside here;
        unlisted = λ within. collected-unlisted p in_it (place_numbered p) within (numbered p);
        unhung = λ hung. let bad : None ≡ Some (place_numbered p) = sym none ∙ hung in cc bad;
      }

      -- they hang, by the first of them
      pub stores-hung : {first : Place} → (the_lane w).chain ≡ places → NoRepeats places → ((p : ℕ) → has places p ≡ true → IsResting z w p)
          → places ≡ number_of first ∷ rest_of places → FitsStores content room z w (record free { chain = Some first }) pages objects
      stores-hung {first = first} chain once rests begins = stores-onto fits passes paired own
          (λ at within. uncollected (number_of at) (fits.listed at within).blank.with_lane)
          (λ p inside here high. uncollected p (fits.unopened p inside here high).with_lane)
          (λ p in_chain.
          let in_it : has places p ≡ true = sym (ap (λ ps. has ps p) chain) ∙ in_chain in
          let resting = rests p in_it in
          (resting, collected-opened p in_it resting.inside (resting.own ∙ passes.acted.lane)))
          (subst (λ (ps : List ℕ). NoRepeats ps) (sym chain) once)
          (subst (λ (ps : List ℕ). IsFirst (Some first) ps) (sym chain) begins)

  module _ {place : ℕ} (below : (the_lane v).lane < z.lanes) (begins : (the_lane v).chain ≡ place ∷ rest_of (the_lane v).chain) where
    abbrev rest : List ℕ
    rest = rest_of (the_lane v).chain

    -- the chain's first place rests
    pub first-rests : IsResting z v place × (page_of place < pages.opened)
    first-rests = fits.chained place (ap (λ ps. has ps place) begins ∙ has-first place rest)

    -- and so does each other, which is another place
    pub later-rests : (p : ℕ) → has rest p ≡ true → IsResting z v p × (page_of p < pages.opened)
    later-rests p in_it = fits.chained p (ap (λ ps. has ps p) begins ∙ has-later place rest p in_it)

    once : (has rest place ≡ false) × NoRepeats rest
    once = subst (λ (ps : List ℕ). NoRepeats ps) begins fits.unrepeated

    pub later-other : (p : ℕ) → has rest p ≡ true → p ≢ place
    later-other p in_it same = let bad : true ≡ false = sym in_it ∙ (ap (has rest) same ∙ once.0) in cc bad

    -- a later place of the chain may be its first next
    later-away : (p : ℕ) → has rest p ≡ true → IsAway free (place_numbered p)
    later-away p in_it =
        let was = (later-rests p in_it).0 in record {
          own = own-numbered fits p was.inside was.own;
          unlisted = λ within. rest-unlisted below p was (place_numbered p) within (numbered p);
          unhung = λ hung.
              let first : (the_lane v).chain ≡ number_of (place_numbered p) ∷ rest = subst (λ one. IsFirst one (the_lane v).chain) hung fits.first in
              let same : place ≡ number_of (place_numbered p) = ap (λ ps. get_or ps 0 0) (sym begins ∙ first) in
              later-other p in_it (sym (same ∙ numbered p));
        }

    module _ {link : ℕ} (leads : LeadsTo z (the_lane v).lane link rest) where
      -- the chain may go on by its first place's link word
      pub link-goes-on : GoesOnBy free link
      link-goes-on = ⊎_elim (λ ends. inl ends.1)
          (λ on. inr (place_numbered on.0, later-away on.0 on.1, on.2 ∙ ap link_to (sym (numbered on.0))))
          (led z (the_lane v).lane link rest leads)

      -- and what then hangs is the first place of the rest
      pub followed-first : {next : Option Place} → (link ≡ 0 → next ≡ None)
          → ((at : Place) → IsOwn free.shard free.shape at → link ≡ link_to (number_of at) → next ≡ Some at) → IsFirst next rest
      followed-first ends goes = ⊎_elim
          (λ (none : (rest ≡ []) × (link ≡ 0)). subst (λ one. IsFirst one rest) (sym (ends none.1)) none.0)
          (λ (on : (p : ℕ) × (has rest p ≡ true) × (link ≡ link_to p) × (rest ≡ p ∷ rest_of rest)).
          let away = later-away on.0 on.1 in
          let is = goes (place_numbered on.0) away.own (on.2 ∙ ap link_to (sym (numbered on.0))) in
          subst (λ one. IsFirst one rest) (sym is) (on.3 ∙ ap (λ n. n ∷ rest_of rest) (sym (numbered on.0))))
          (led z (the_lane v).lane link rest leads)

    module _ {w : View} (passes : Passes z (λ p. eqb p place) [] v w) (paired : length v.rooms ≡ length v.seen)
        (own : (the_lane v).mine ≡ acts_of (the_lane v).lane v.seen) where
      no-acts : (p : ℕ) → All (λ act. gives_away act p ≡ false) []
      no-acts p = All-nil (λ act. gives_away act p ≡ false)

      -- a FOLLOW leaves the chain's rest
      pub stores-followed : {next : Option Place} → (the_lane w).chain ≡ rest → IsFirst next rest
          → FitsStores content room z w (record free { chain = next }) pages objects
      stores-followed {next = next} chain first = stores-onto fits passes paired own
          (λ at within. (ne_eqb (number_of at) place (rest-unlisted below place first-rests.0 at within), no-acts (number_of at)))
          (λ p inside here high. (
            ne_eqb p place (λ same.
                let low = first-rests.1 in let page : page_of p ≡ page_of place = ap page_of same in absurd (omega arith)),
            no-acts p,
          ))
          (λ p in_chain.
          let in_it : has rest p ≡ true = sym (ap (λ ps. has ps p) chain) ∙ in_chain in
          let was = later-rests p in_it in
          (resting-passes passes paired own was.0 (ne_eqb p place (later-other p in_it)) (no-acts p), was.1))
          (subst (λ (ps : List ℕ). NoRepeats ps) (sym chain) once.1)
          (subst (λ (ps : List ℕ). IsFirst next ps) (sym chain) first)

      -- and the place that was followed is blank, once its slots are emptied
      pub followed-blank : AreEmptied z (the_lane w) place → IsBlank z w place (known_of (the_lane v) place).room
      followed-blank emptied =
          let rests = first-rests.0 in
          let same = (spot-passes passes.acted paired own place rests.with_lane (no-acts place)).1 in
          let roomy = rests.room in record {
            with_lane = still-with passes.acted paired own place rests.with_lane (no-acts place);
            emptied = emptied;
            room = omega (arith, same, roomy);
          }

-- ---- what a TAKE leaves of the lane's record

pub known-with : (stored : ℕ → Stored) (places : List ℕ) (cells : List (ℕ × Stored)) (p : ℕ)
    → known_in (with_cells stored places cells) p ≡ cond (has places p) (stored p) (known_in cells p)
known-with stored [] cells p = refl
known-with stored (place ∷ more) cells p =
    let rest : Stored = known_in (with_cells stored more cells) p in
    let old : Stored = known_in cells p in dite (ℕ_discrete p place)
    (λ here. ap (λ (b : Bool). cond b (stored place) rest) (eq-eqb p place here)
    ∙ (ap stored (sym here) ∙ sym (ap (λ (b : Bool). cond (cond b true (has more p)) (stored p) old) (eq-eqb p place here))))
    (λ other. ap (λ (b : Bool). cond b (stored place) rest) (ne_eqb p place other)
    ∙ (known-with stored more cells p ∙ sym (ap (λ (b : Bool). cond (cond b true (has more p)) (stored p) old) (ne_eqb p place other))))

module _ (r : LaneRecord) (places : List ℕ) (stored : ℕ → Stored) where
  -- of places that it didn't collect it did and knows what it did and knew
  pub taken-deeds : (p number : ℕ) → has places p ≡ false → status_of (taken_record r places stored) p number ≡ status_of r p number
  taken-deeds p number isnt = ap (λ (b : Bool). cond b (at_rest p number) (status_of r p number)) isnt

  pub taken-cells : (p : ℕ) → has places p ≡ false → known_of (taken_record r places stored) p ≡ known_of r p
  taken-cells p isnt = known-with stored places r.cells p ∙ ap (λ (b : Bool). cond b (stored p) (known_of r p)) isnt

  -- and those that it collected rest
  pub taken-rests : (z : Shape) (w : View) → the_lane w ≡ taken_record r places stored → (p : ℕ) → has places p ≡ true → is_place z p ≡ true → shard_of p ≡ (the_lane w).lane
      → (pool_after z w.seen p).phase ≡ with (the_lane w).lane → (stored p).content ≡ [] → room_of w.seen w.rooms p ≤ (stored p).room → IsResting z w p
  taken-rests z w is p in_it inside own there empty least =
      let known : known_of (the_lane w) p ≡ stored p = ap (λ (s : LaneRecord). known_of s p) is ∙ (known-with stored places r.cells p ∙ ap (λ (b : Bool). cond b (stored p) (known_of r p)) in_it) in
      let roomy = ap (λ (c : Stored). c.room) known in record {
        inside = inside;
        own = own;
        with_lane = there;
        rests = λ number below. ap (λ (s : LaneRecord). status_of s p number) is ∙ ap (λ (b : Bool). cond b (at_rest p number) (status_of r p number)) in_it;
        empty = ap (λ (c : Stored). c.content) known ∙ empty;
        room = omega (arith, least, roomy);
      }
