-- A lane returns a place at rest, and collects places that are: every share is still where it is to be.
use Rattle.poolsteps.specs.Spot.{Spot as Standing}
use Rattle.std.proofs.Common.{◌≡◌, ◌≢◌, ⊎_elim, ℕ, ◌<◌, Bool, true, false, cond, eqb, ◌&&◌, List, [], ◌∷◌, ◌++◌, length, refl, ap, sym, ◌∙◌, eq-eqb, ne_eqb}
use Rattle.std.proofs.lemmas.Bool.{cases_Bool, eqb-true, and_from, and_parts, and_left, and_right}
use mathlib.Core.Logic.{dite}
use native.Mathlib.Decide.{ℕ_discrete}
use Rattle.keybits.specs.declared.shape.Shape.{Shape}
use Rattle.keybits.specs.Places.{shard_of}
use Rattle.keybits.specs.Shapes.{callers, is_place}
use Rattle.seqpool.specs.declared.act.Act.{Act}
use Rattle.seqpool.specs.declared.act.Act.TheVariants as acts
use Rattle.seqpool.specs.Pool.{with, home, Spot, Pool, has, touches, changed, fresh, pool_after}
use Rattle.seqpool.proofs.Growth.{pool-snoc, after-here, after-else}
use Rattle.seqpool.proofs.Ranks.{all-home}
use Rattle.steplaws.specs.Facts.{is_home}
use Rattle.poolsteps.specs.declared.view.Stored.{Stored}
use Rattle.poolsteps.specs.declared.view.Status.{Status}
use Rattle.poolsteps.specs.declared.view.Status.TheVariants.{Untouched, Emptied, Whole}
use Rattle.poolsteps.specs.Shares.{reclaimer_after, reclaimer, room_after, room_of, MayHave, HasAll, IsKept, Slots, Stock, HasShare, IsEmpty, RestsAs, Shared, at_rest, after_home, after_collect}
use Rattle.poolsteps.specs.ShareLaws.{HomeShareLaw, CollectShareLaw}
use Rattle.poolsteps.proofs.shares.Cases.{each-number, untouched-is}
use Rattle.poolsteps.proofs.shares.Rooms.{reclaimers-behind, rooms-behind}

-- over an act, of a place that it isn't of, all stays: who may have a share, who has all, what is known of the cell, and whether it is home
pub record Stays (z : Shape) (history : List Act) (kept : List ℕ) (act : Act) (p : ℕ) : Type 0 where
  pub may : (l k : ℕ) → MayHave (reclaimer history p) l k (pool_after z history p).phase
      → MayHave (reclaimer (history ++ act ∷ []) p) l k (pool_after z (history ++ act ∷ []) p).phase
  pub all : (l : ℕ) → HasAll (reclaimer (history ++ act ∷ []) p) l (pool_after z (history ++ act ∷ []) p).phase
      → HasAll (reclaimer history p) l (pool_after z history p).phase
  pub known : (c : Stored) → IsKept c (room_of history kept p) (pool_after z history p).phase
      → IsKept c (room_of (history ++ act ∷ []) (kept ++ 0 ∷ []) p) (pool_after z (history ++ act ∷ []) p).phase
  pub homes : is_home (pool_after z (history ++ act ∷ []) p).phase ≡ is_home (pool_after z history p).phase

-- over an act that neither reclaims a place nor publishes a key
module _ (z : Shape) (history : List Act) (kept : List ℕ) (act : Act) (same : length kept ≡ length history)
    (reclaims : (f : ℕ → ℕ) → reclaimer_after act f ≡ f) (publishes : (f : ℕ → ℕ) → room_after act 0 f ≡ f) where
  abbrev grown : List Act
  grown = history ++ act ∷ []

  phase-here : (p : ℕ) → touches act p ≡ true → (pool_after z grown p).phase ≡ (changed z.last_generation act (pool_after z history p)).phase
  phase-here p of = ap (λ (P : Pool). (P p).phase) (pool-snoc z fresh history act) ∙ ap (λ (x : Spot). x.phase) (after-here z (pool_after z history) act p of)

  phase-else : (p : ℕ) → touches act p ≡ false → (pool_after z grown p).phase ≡ (pool_after z history p).phase
  phase-else p none = ap (λ (P : Pool). (P p).phase) (pool-snoc z fresh history act) ∙ ap (λ (x : Spot). x.phase) (after-else z (pool_after z history) act p none)

  last-stays : (p : ℕ) → reclaimer grown p ≡ reclaimer history p
  last-stays p = ap (λ (f : ℕ → ℕ). f p) (reclaimers-behind (λ _. 0) history act ∙ reclaims (reclaimer history))

  room-stays : (p : ℕ) → room_of grown (kept ++ 0 ∷ []) p ≡ room_of history kept p
  room-stays p = ap (λ (f : ℕ → ℕ). f p) (rooms-behind (λ _. 0) history kept act 0 same ∙ publishes (room_of history kept))

  stays-else : (p : ℕ) → touches act p ≡ false → Stays z history kept act p
  stays-else p none = record {
    may = λ l k may. rw (last-stays p) (rw (phase-else p none) may);
    all = λ l all. rw (last-stays p) at (rw (phase-else p none) at all);
    known = λ c known. rw (room-stays p) (rw (phase-else p none) known);
    homes = ap is_home (phase-else p none);
  }

-- ---- a place at rest, by how a lane left its slots

-- a slot that isn't left alone was left so before
as-before : (b : Bool) (x left : Status) → left ≢ Untouched → cond b Untouched x ≡ left → x ≡ left
as-before true x left some e = absurd (some (sym e))
as-before false x left some e = e

-- at rest no slot is left alone
rests-touched : (b : Bool) → cond b Whole Emptied ≡ Untouched → ⊥
rests-touched true e = cc e
rests-touched false e = cc e

-- a slot at rest has the whole cell where the lane put it, and none where the lane emptied it
module _ {T : Type 0} (content : T → List ℕ) (room : T → ℕ) (spots : ℕ → Standing) (slots : Slots T) (p k : ℕ) (c : Stored) where
  rests-from : (b : Bool) (x : Status) → x ≡ cond b Whole Emptied → (x ≡ Emptied → IsEmpty content room spots slots p k) → (x ≡ Whole → HasShare content room spots slots p k c 0 1)
      → RestsAs content room spots slots p k c b
  rests-from true x is empty whole = whole is
  rests-from false x is empty whole = empty is

  rests-empty : (b : Bool) → cond b Whole Emptied ≡ Emptied → RestsAs content room spots slots p k c b → IsEmpty content room spots slots p k
  rests-empty true e rests = absurd (cc e)
  rests-empty false e rests = rests

  rests-whole : (b : Bool) → cond b Whole Emptied ≡ Whole → RestsAs content room spots slots p k c b → HasShare content room spots slots p k c 0 1
  rests-whole true e rests = rests
  rests-whole false e rests = absurd (cc e)

-- ---- a place is returned

module _ {T : Type 0} (content : T → List ℕ) (room : T → ℕ) (spots : ℕ → Standing) (z : Shape) (history : List Act) (kept : List ℕ) (slots : Slots T) (q : Stock) (lane place : ℕ)
    (same : length kept ≡ length history) (s : Shared content room spots z history kept slots q) where
  abbrev returning : Act
  returning = acts.Home lane place

  abbrev returned : Stock
  returned = after_home q lane place

  home-here : (pool_after z (history ++ returning ∷ []) place).phase ≡ home
  home-here = phase-here z history kept returning same (λ f. refl) (λ f. refl) place (eq-eqb place place refl)

  home-room : room_of (history ++ returning ∷ []) (kept ++ 0 ∷ []) place ≡ room_of history kept place
  home-room = room-stays z history kept returning same (λ f. refl) (λ f. refl) place

  home-else : (p : ℕ) → p ≢ place → Stays z history kept returning p
  home-else p other = stays-else z history kept returning same (λ f. refl) (λ f. refl) p (ne_eqb p place other)

  -- how the lane left the slots of the place, and how each left those of others
  left-here : (k : ℕ) → returned.status lane place k ≡ Untouched
  left-here k = ap (λ (b : Bool). cond b Untouched (q.status lane place k)) (and_from _ _ (eq-eqb lane lane refl) (eq-eqb place place refl))

  left-else : (l p k : ℕ) → p ≢ place → returned.status l p k ≡ q.status l p k
  left-else l p k other = ap (λ (b : Bool). cond b Untouched (q.status l p k)) (and_right (eqb l lane) _ (ne_eqb p place other))

  left-other : (l p k : ℕ) → l ≢ lane → returned.status l p k ≡ q.status l p k
  left-other l p k other = ap (λ (b : Bool). cond b Untouched (q.status l p k)) (and_left _ (eqb p place) (ne_eqb l lane other))

  left-before : (l p k : ℕ) (left : Status) → left ≢ Untouched → returned.status l p k ≡ left → q.status l p k ≡ left
  left-before l p k left some is = as-before (eqb l lane && eqb p place) (q.status l p k) left some is

  module _ (less : lane < (callers z)) (is : (pool_after z history place).phase ≡ with lane) (rests : (k : ℕ) → k < (callers z) → q.status lane place k ≡ at_rest place k) where
    -- of the place no slot is touched
    none-touched : (l k : ℕ) → l < (callers z) → k < (callers z) → returned.status l place k ≢ Untouched → ⊥
    none-touched l k b u some = dite (ℕ_discrete l lane)
        (λ e. some (ap (λ (m : ℕ). returned.status m place k) e ∙ left-here k))
        (λ other.
        let was = s.touched l place k b u (λ none. some (left-other l place k other ∙ none)) in
        let may : MayHave (reclaimer history place) l k (with lane) = rw is at was.0 in
        other (sym may))

    -- its slots are at rest
    rests-now : (k : ℕ) → is_place z place ≡ true → k < (callers z) → RestsAs content room spots slots place k (q.stored place) (eqb k (shard_of place))
    rests-now k i u = rests-from content room spots slots place k (q.stored place) (eqb k (shard_of place)) (q.status lane place k) (rests k u)
        (s.emptied lane place k less i u) (s.whole lane place k less i u)

    pub home_keeps : IsKept (q.stored place) (room_of history kept place) home → Shared content room spots z (history ++ returning ∷ []) (kept ++ 0 ∷ []) slots returned
    home_keeps known = record {
      untouched = each-number place
          (λ k i u none. rw home-here (rests-now k i u))
          (λ p other k i u none. rw (home-else p other).homes (s.untouched p k i u (λ l b. sym (left-else l p k other) ∙ none l b)));
      emptied = λ l p k b i u e. s.emptied l p k b i u (left-before l p k Emptied (λ bad. cc bad) e);
      whole = λ l p k b i u e. s.whole l p k b i u (left-before l p k Whole (λ bad. cc bad) e);
      touched = λ l. each-number place
          (λ k b u some. absurd (none-touched l k b u some))
          (λ p other k b u some. let was = s.touched l p k b u (λ none. some (left-else l p k other ∙ none)) in ((home-else p other).may l k was.0, was.1));
      owned = λ l. each-number place
          (λ b all. let none : ⊥ = rw home-here at all in absurd none)
          (λ p other b all. s.owned l p b ((home-else p other).all l all));
      contents = each-number place (rw home-here (rw home-room known)) (λ p other. (home-else p other).known (q.stored p) (s.contents p));
    }

pub home-share-law : {T : Type 0} (content : T → List ℕ) (room : T → ℕ) (spots : ℕ → Standing) → HomeShareLaw content room spots
home-share-law content room spots z history kept slots q lane place same s less ok rests empty roomy =
    home_keeps content room spots z history kept slots q lane place same s less ok.1 rests (empty, roomy)

-- ---- places are collected

module _ {T : Type 0} (content : T → List ℕ) (room : T → ℕ) (spots : ℕ → Standing) (z : Shape) (history : List Act) (kept : List ℕ) (slots : Slots T) (q : Stock) (lane : ℕ) (places : List ℕ)
    (same : length kept ≡ length history) (s : Shared content room spots z history kept slots q) where
  abbrev collecting : Act
  collecting = acts.Collect lane places

  abbrev collected : Stock
  collected = after_collect q lane places

  with-here : (p : ℕ) → has places p ≡ true → (pool_after z (history ++ collecting ∷ []) p).phase ≡ with lane
  with-here p of = phase-here z history kept collecting same (λ f. refl) (λ f. refl) p of

  with-else : (p : ℕ) → has places p ≡ false → Stays z history kept collecting p
  with-else p none = stays-else z history kept collecting same (λ f. refl) (λ f. refl) p none

  -- the slot is of a place that the lane collected, left by that lane
  abbrev mine : ℕ → ℕ → Bool
  mine l p = eqb l lane && has places p

  mine-parts : (l p : ℕ) → mine l p ≡ true → (l ≡ lane) × (has places p ≡ true)
  mine-parts l p e = let parts = and_parts (eqb l lane) (has places p) e in (eqb-true l lane parts.0, parts.1)

  -- how it is left then, and how any other
  rests-then : (l p k : ℕ) → mine l p ≡ true → collected.status l p k ≡ at_rest p k
  rests-then l p k e = ap (λ (b : Bool). cond b (at_rest p k) (q.status l p k)) e

  stays-then : (l p k : ℕ) → mine l p ≡ false → collected.status l p k ≡ q.status l p k
  stays-then l p k e = ap (λ (b : Bool). cond b (at_rest p k) (q.status l p k)) e

  -- the lane knows the cell, and all else that is known stays
  knows-then : (l p : ℕ) → mine l p ≡ true → collected.knows l p ≡ q.stored p
  knows-then l p e = ap (λ (b : Bool). cond b (q.stored p) (q.knows l p)) e

  knows-still : (l p : ℕ) → mine l p ≡ false → collected.knows l p ≡ q.knows l p
  knows-still l p e = ap (λ (b : Bool). cond b (q.stored p) (q.knows l p)) e

  module _ (less : lane < (callers z)) (homes : (p : ℕ) → has places p ≡ true → (pool_after z history p).phase ≡ home) where
    -- no lane touched a slot of a home place
    none-moved : (l p k : ℕ) → has places p ≡ true → l < (callers z) → k < (callers z) → q.status l p k ≢ Untouched → ⊥
    none-moved l p k of b u some = let may : ⊥ = rw (homes p of) at (s.touched l p k b u some).0 in may

    -- so its slots are at rest
    rests-home : (p k : ℕ) → has places p ≡ true → is_place z p ≡ true → k < (callers z) → RestsAs content room spots slots p k (q.stored p) (eqb k (shard_of p))
    rests-home p k of i u = rw (homes p of) at (s.untouched p k i u (λ l b. untouched-is (q.status l p k) (none-moved l p k of b u)))

    collect_keeps : Shared content room spots z (history ++ collecting ∷ []) (kept ++ 0 ∷ []) slots collected
    collect_keeps = record {
      untouched = λ p k i u none. ⊎_elim
          (λ (of : has places p ≡ true). absurd (rests-touched (eqb k (shard_of p)) (sym (rests-then lane p k (and_from _ _ (eq-eqb lane lane refl) of)) ∙ none lane less)))
          (λ (no_more : has places p ≡ false). rw (with-else p no_more).homes
          (s.untouched p k i u (λ l b. sym (stays-then l p k (and_right (eqb l lane) _ no_more)) ∙ none l b)))
          (cases_Bool (has places p));
      emptied = λ l p k b i u e. ⊎_elim
          (λ (own : mine l p ≡ true). rests-empty content room spots slots p k (q.stored p) (eqb k (shard_of p)) (sym (rests-then l p k own) ∙ e)
          (rests-home p k (mine-parts l p own).1 i u))
          (λ (other : mine l p ≡ false). s.emptied l p k b i u (sym (stays-then l p k other) ∙ e))
          (cases_Bool (mine l p));
      whole = λ l p k b i u e. ⊎_elim
          (λ (own : mine l p ≡ true). rests-whole content room spots slots p k (q.stored p) (eqb k (shard_of p)) (sym (rests-then l p k own) ∙ e)
          (rests-home p k (mine-parts l p own).1 i u))
          (λ (other : mine l p ≡ false). s.whole l p k b i u (sym (stays-then l p k other) ∙ e))
          (cases_Bool (mine l p));
      touched = λ l p k b u some. ⊎_elim
          (λ (own : mine l p ≡ true). (rw (with-here p (mine-parts l p own).1) (sym (mine-parts l p own).0), knows-then l p own))
          (λ (other : mine l p ≡ false).
          let old : q.status l p k ≢ Untouched = λ none. some (stays-then l p k other ∙ none) in
          let was = s.touched l p k b u old in
          ⊎_elim
          (λ (of : has places p ≡ true). absurd (none-moved l p k of b u old))
          (λ (no_more : has places p ≡ false). ((with-else p no_more).may l k was.0, knows-still l p other ∙ was.1))
          (cases_Bool (has places p)))
          (cases_Bool (mine l p));
      owned = λ l p b all. ⊎_elim
          (λ (of : has places p ≡ true).
          let own : lane ≡ l = rw (with-here p of) at all in
          knows-then l p (and_from _ _ (eq-eqb l lane (sym own)) of))
          (λ (no_more : has places p ≡ false). knows-still l p (and_right (eqb l lane) _ no_more) ∙ s.owned l p b ((with-else p no_more).all l all))
          (cases_Bool (has places p));
      contents = λ p. ⊎_elim
          (λ (of : has places p ≡ true). rw (with-here p of) tt)
          (λ (no_more : has places p ≡ false). (with-else p no_more).known (q.stored p) (s.contents p))
          (cases_Bool (has places p));
    }

pub collect-share-law : {T : Type 0} (content : T → List ℕ) (room : T → ℕ) (spots : ℕ → Standing) → CollectShareLaw content room spots
collect-share-law content room spots z history kept slots q lane places same s less ok =
    let homes : (p : ℕ) → has places p ≡ true → (pool_after z history p).phase ≡ home = λ p of. all-home z (pool_after z history) lane places p ok.2 of in
    (λ p of. rw (homes p of) at (s.contents p), collect_keeps content room spots z history kept slots q lane places same s less homes)
