-- Which places a lane retired: its own acts tell.
use Rattle.std.proofs.Common.{◌≡◌, ◌≢◌, ◌⊎◌, ⊎_elim, inl, inr, ℕ, ◌+◌, ◌<◌, Bool, true, false, cond, eqb, List, [], ◌∷◌, ◌++◌, Some, None, refl, ap, sym, ◌∙◌, subst, eq-eqb, ne_eqb, eqb-true}
use Rattle.std.proofs.lemmas.List.Elements.{All-head, All-tail}
use Rattle.std.proofs.lemmas.Bool.{cases_Bool}
use mathlib.Core.Logic.{dite}
use native.Mathlib.Decide.{ℕ_discrete}
use Rattle.keybits.specs.declared.shape.Shape.{Shape}
use Rattle.keybits.specs.Shapes.{callers, is_place}
use Rattle.keybits.specs.Keys.{place_of, generation_of}
use Rattle.seqpool.specs.declared.act.Act.{Act}
use Rattle.seqpool.specs.declared.act.Act.TheVariants as acts
use Rattle.seqpool.specs.Pool.{Phase, with, published, home, retired, Spot, spot, Pool, has, is_marked, gained, lost, marked, lane_of, Allowed, touches, changed, after, fresh, pool_from, pool_after, LegalFrom, IsLegal}
use Rattle.seqpool.specs.Histories.{acts_of}
use Rattle.seqpool.proofs.Growth.{after-here, after-else}
use Rattle.seqpool.proofs.Ranks.{all-home, current-key}
use Rattle.poolsteps.specs.declared.view.View.{View}
use Rattle.poolsteps.specs.Views.{the_lane}
use Rattle.seatcalls.specs.Carried.{AreAtRest}
use Rattle.seatcalls.specs.Left.{retired_by, has_retired}
use Rattle.seatcalls.proofs.parts.Frames.{OnlyAt}

-- ---- acts of a lane, one after another

pub retired-append : (z : Shape) (place : ℕ) (made more : List Act) (was : Bool) → has_retired z place (made ++ more) was ≡ has_retired z place more (has_retired z place made was)
retired-append z place [] more was = refl
retired-append z place (act ∷ made) more was = retired-append z place made more (retired_by z place act was)

-- an act of other places retires none and leaves what is retired
retired-off : (z : Shape) (place : ℕ) (act : Act) (was : Bool) → touches act place ≡ false → retired_by z place act was ≡ was
retired-off z place (acts.Publish lane key content with_ref) was off = ap (λ (b : Bool). cond b false was) off
retired-off z place (acts.Get lane key reply) was off = refl
retired-off z place (acts.Release lane key) was off = refl
retired-off z place (acts.Clear lane key reply) was off = refl
retired-off z place (acts.Reclaim lane key) was off = ap (λ (b : Bool). cond b (eqb (generation_of key) z.last_generation) was) off
retired-off z place (acts.Home lane at) was off = ap (λ (b : Bool). cond b false was) off
retired-off z place (acts.Collect lane places) was off = ap (λ (b : Bool). cond b false was) off

pub retired-else : (z : Shape) (place p : ℕ) (made : List Act) (was : Bool) → OnlyAt place made → p ≢ place → has_retired z p made was ≡ was
retired-else z place p [] was only other = refl
retired-else z place p (act ∷ made) was only other =
    retired-else z place p made (retired_by z p act was) (All-tail (λ a. (q : ℕ) → q ≢ place → touches a q ≡ false) act made only) other
    ∙ retired-off z p act was (All-head (λ a. (q : ℕ) → q ≢ place → touches a q ≡ false) act made only p other)

-- what a lane's acts leave of the places that it retired: such a place was so before and isn't touched, or it is at rest
abbrev pub Retires : Shape → (ℕ → Bool) → List Act → View → View → Type 0
Retires z at made v w = (p : ℕ) → is_place z p ≡ true → has_retired z p made (has_retired z p (the_lane v).mine false) ≡ true
    → ((at p ≡ false) × (has_retired z p (the_lane v).mine false ≡ true)) ⊎ AreAtRest z (the_lane w) p

-- it is so where the one place that is touched isn't then retired
pub retires-else : (z : Shape) (place : ℕ) (made : List Act) (v w : View) → OnlyAt place made
    → (has_retired z place made (has_retired z place (the_lane v).mine false) ≡ true → AreAtRest z (the_lane w) place) → Retires z (λ p. eqb p place) made v w
retires-else z place made v w only here p inside is = dite (ℕ_discrete p place)
    (λ (at : p ≡ place). inr (subst (λ (q : ℕ). AreAtRest z (the_lane w) q) (sym at)
    (here (subst (λ (q : ℕ). has_retired z q made (has_retired z q (the_lane v).mine false) ≡ true) at is))))
    (λ (other : p ≢ place). inl (ne_eqb p place other, sym (retired-else z place p made (has_retired z p (the_lane v).mine false) only other) ∙ is))

-- a reclaim below the last generation retires its place not
pub reclaimed-unretired : (z : Shape) (place lane key : ℕ) (first : List Act) (was : Bool) → place_of key ≡ place → generation_of key ≢ z.last_generation
    → has_retired z place (first ++ acts.Reclaim lane key ∷ []) was ≡ true → ⊥
reclaimed-unretired z place lane key first was same below is =
    let before : Bool = has_retired z place first was in
    let none : has_retired z place (first ++ acts.Reclaim lane key ∷ []) was ≡ false
    = retired-append z place first (acts.Reclaim lane key ∷ []) was
    ∙ (ap (λ (b : Bool). cond b (eqb (generation_of key) z.last_generation) before) (eq-eqb place (place_of key) (sym same)) ∙ ne_eqb (generation_of key) z.last_generation below) in
    let bad : true ≡ false = sym is ∙ none in cc bad

-- nor does one behind which it is returned
pub returned-unretired : (z : Shape) (place lane l key : ℕ) (first : List Act) (was : Bool)
    → has_retired z place (first ++ acts.Reclaim lane key ∷ acts.Home l place ∷ []) was ≡ true → ⊥
returned-unretired z place lane l key first was is =
    let before : Bool = retired_by z place (acts.Reclaim lane key) (has_retired z place first was) in
    let none : has_retired z place (first ++ acts.Reclaim lane key ∷ acts.Home l place ∷ []) was ≡ false
    = retired-append z place first (acts.Reclaim lane key ∷ acts.Home l place ∷ []) was ∙ ap (λ (b : Bool). cond b false before) (eq-eqb place place refl) in
    let bad : true ≡ false = sym is ∙ none in cc bad

-- ---- histories

module _ (z : Shape) (place : ℕ) (P : Pool) where
  -- an act of other places leaves a retired one
  off-it : (act : Act) → touches act place ≡ false → (P place).phase ≡ retired → (after z act P place).phase ≡ retired
  off-it act off is = ap (λ (s : Spot). s.phase) (after-else z P act place off) ∙ is

  -- an act of the place makes it what it is then
  on-it : (act : Act) → touches act place ≡ true → (after z act P place).phase ≡ (changed z.last_generation act (P place)).phase
  on-it act on = ap (λ (s : Spot). s.phase) (after-here z P act place on)

  -- what a place would be that an act is of
  at-it : (at : ℕ) (phase : Phase) → (P at).phase ≡ phase → eqb place at ≡ true → (P place).phase ≡ phase
  at-it at phase is on = ap (λ (p : ℕ). (P p).phase) (eqb-true place at on) ∙ is

  unmoved : (act : Act) → ((changed z.last_generation act (P place)).phase ≡ retired) → (P place).phase ≡ retired → (after z act P place).phase ≡ retired
  unmoved act same is = ⊎_elim (λ (on : touches act place ≡ true). on-it act on ∙ same) (λ (off : touches act place ≡ false). off-it act off is) (cases_Bool (touches act place))

  -- a place that is retired stays so
  retired-stays : (act : Act) → Allowed z P act → (P place).phase ≡ retired → (after z act P place).phase ≡ retired
  retired-stays (acts.Publish k key content with_ref) ok is = ⊎_elim
      (λ (on : eqb place (place_of key) ≡ true). let bad : retired ≡ with k = sym is ∙ at-it (place_of key) (with k) ok.1 on in absurd (cc bad))
      (λ (off : eqb place (place_of key) ≡ false). off-it (acts.Publish k key content with_ref) off is)
      (cases_Bool (eqb place (place_of key)))
  retired-stays (acts.Get k key None) ok is = unmoved (acts.Get k key None) is is
  retired-stays (acts.Get k key (Some content)) ok is = unmoved (acts.Get k key (Some content)) (ap (gained k) is) is
  retired-stays (acts.Release k key) ok is = unmoved (acts.Release k key) (ap (lost k) is) is
  retired-stays (acts.Clear k key true) ok is = unmoved (acts.Clear k key true) (ap marked is) is
  retired-stays (acts.Clear k key false) ok is = unmoved (acts.Clear k key false) is is
  retired-stays (acts.Reclaim k key) ok is = ⊎_elim
      (λ (on : eqb place (place_of key) ≡ true).
      let here : (P (place_of key)).phase ≡ retired = ap (λ (p : ℕ). (P p).phase) (sym (eqb-true place (place_of key) on)) ∙ is in
      let bad : false ≡ true = sym (ap is_marked here) ∙ ok.1 in absurd (cc bad))
      (λ (off : eqb place (place_of key) ≡ false). off-it (acts.Reclaim k key) off is)
      (cases_Bool (eqb place (place_of key)))
  retired-stays (acts.Home k at) ok is = ⊎_elim
      (λ (on : eqb place at ≡ true). let bad : retired ≡ with k = sym is ∙ at-it at (with k) ok.1 on in absurd (cc bad))
      (λ (off : eqb place at ≡ false). off-it (acts.Home k at) off is)
      (cases_Bool (eqb place at))
  retired-stays (acts.Collect k places) ok is = ⊎_elim
      (λ (on : has places place ≡ true). let bad : home ≡ retired = sym (all-home z P k places place ok.2 on) ∙ is in absurd (cc bad))
      (λ (off : has places place ≡ false). off-it (acts.Collect k places) off is)
      (cases_Bool (has places place))

  -- the generation that a reclaim of the place is of
  reclaimed-at : (k key : ℕ) → Allowed z P (acts.Reclaim k key) → eqb place (place_of key) ≡ true → (P place).generation ≡ generation_of key
  reclaimed-at k key ok on = ap (λ (p : ℕ). (P p).generation) (eqb-true place (place_of key) on) ∙ (current-key z P key ok.0).1

  -- what a lane retired by its act is retired
  retired-step : (was : Bool) → (was ≡ true → (P place).phase ≡ retired) → (act : Act) → Allowed z P act → retired_by z place act was ≡ true → (after z act P place).phase ≡ retired
  retired-step was before (acts.Publish k key content with_ref) ok is = ⊎_elim
      (λ (on : eqb place (place_of key) ≡ true). let bad : false ≡ true = sym (ap (λ (b : Bool). cond b false was) on) ∙ is in absurd (cc bad))
      (λ (off : eqb place (place_of key) ≡ false).
      retired-stays (acts.Publish k key content with_ref) ok (before (sym (retired-off z place (acts.Publish k key content with_ref) was off) ∙ is)))
      (cases_Bool (eqb place (place_of key)))
  retired-step was before (acts.Get k key reply) ok is = retired-stays (acts.Get k key reply) ok (before is)
  retired-step was before (acts.Release k key) ok is = retired-stays (acts.Release k key) ok (before is)
  retired-step was before (acts.Clear k key reply) ok is = retired-stays (acts.Clear k key reply) ok (before is)
  retired-step was before (acts.Reclaim k key) ok is = ⊎_elim
      (λ (on : eqb place (place_of key) ≡ true).
      let last : eqb (generation_of key) z.last_generation ≡ true = sym (ap (λ (b : Bool). cond b (eqb (generation_of key) z.last_generation) was) on) ∙ is in
      on-it (acts.Reclaim k key) on ∙ ap (λ (b : Bool). (cond b (spot (P place).generation retired) (spot ((P place).generation + 1) (with k))).phase)
      (ap (λ (g : ℕ). eqb g z.last_generation) (reclaimed-at k key ok on) ∙ last))
      (λ (off : eqb place (place_of key) ≡ false). retired-stays (acts.Reclaim k key) ok (before (sym (retired-off z place (acts.Reclaim k key) was off) ∙ is)))
      (cases_Bool (eqb place (place_of key)))
  retired-step was before (acts.Home k at) ok is = ⊎_elim
      (λ (on : eqb place at ≡ true). let bad : false ≡ true = sym (ap (λ (b : Bool). cond b false was) on) ∙ is in absurd (cc bad))
      (λ (off : eqb place at ≡ false). retired-stays (acts.Home k at) ok (before (sym (retired-off z place (acts.Home k at) was off) ∙ is)))
      (cases_Bool (eqb place at))
  retired-step was before (acts.Collect k places) ok is = ⊎_elim
      (λ (on : has places place ≡ true). let bad : false ≡ true = sym (ap (λ (b : Bool). cond b false was) on) ∙ is in absurd (cc bad))
      (λ (off : has places place ≡ false). retired-stays (acts.Collect k places) ok (before (sym (retired-off z place (acts.Collect k places) was off) ∙ is)))
      (cases_Bool (has places place))

-- ---- a place that a lane retired

module _ (z : Shape) (l place : ℕ) where
  retired-from : (P : Pool) (history : List Act) (was : Bool) → LegalFrom z P history → (was ≡ true → (P place).phase ≡ retired)
      → has_retired z place (acts_of l history) was ≡ true → (pool_from z P history place).phase ≡ retired
  retired-from P [] was legal before is = before is
  retired-from P (act ∷ more) was legal before is = dite (ℕ_discrete (lane_of act) l)
      (λ (mine : lane_of act ≡ l).
      retired-from (after z act P) more (retired_by z place act was) legal.2 (retired-step z place P was before act legal.1)
      (sym (ap (λ (b : Bool). has_retired z place (cond b (act ∷ acts_of l more) (acts_of l more)) was) (eq-eqb (lane_of act) l mine)) ∙ is))
      (λ (other : lane_of act ≢ l).
      retired-from (after z act P) more was legal.2 (λ now. retired-stays z place P act legal.1 (before now))
      (sym (ap (λ (b : Bool). has_retired z place (cond b (act ∷ acts_of l more) (acts_of l more)) was) (ne_eqb (lane_of act) l other)) ∙ is))

-- it is retired in each legal history with just the lane's acts
pub retired-phase : (z : Shape) (history mine : List Act) (l place : ℕ) → IsLegal z history → mine ≡ acts_of l history → has_retired z place mine false ≡ true
    → (pool_after z history place).phase ≡ retired
retired-phase z history mine l place legal own is =
    retired-from z l place fresh history false legal (λ none. absurd (cc none)) (sym (ap (λ (xs : List Act). has_retired z place xs false) own) ∙ is)

-- ---- a retired place, some lane retired

-- what a lane did by an act, if it is its act
abbrev by-lane : Shape → ℕ → Act → (ℕ → Bool) → ℕ → Bool
by-lane z place act was l = cond (eqb (lane_of act) l) (retired_by z place act (was l)) (was l)

-- one of the lanes did it
abbrev IsOneOf : Shape → (ℕ → Bool) → Type 0
IsOneOf z was = (l : ℕ) × (l < (callers z)) × (was l ≡ true)

gained-retired : (k : ℕ) (f : Phase) → gained k f ≡ retired → f ≡ retired
gained-retired k (with m) is = is
gained-retired k (published content references mark) is = absurd (cc is)
gained-retired k home is = is
gained-retired k retired is = is

lost-retired : (k : ℕ) (f : Phase) → lost k f ≡ retired → f ≡ retired
lost-retired k (with m) is = is
lost-retired k (published content references mark) is = absurd (cc is)
lost-retired k home is = is
lost-retired k retired is = is

marked-retired : (f : Phase) → marked f ≡ retired → f ≡ retired
marked-retired (with m) is = is
marked-retired (published content references mark) is = absurd (cc is)
marked-retired home is = is
marked-retired retired is = is

-- a place that a reclaim retires was at the last generation
retired-last : (b : Bool) (s : Spot) (k : ℕ) → (cond b (spot s.generation retired) (spot (s.generation + 1) (with k))).phase ≡ retired → b ≡ true
retired-last true s k is = refl
retired-last false s k is = absurd (cc is)

module _ (z : Shape) (place : ℕ) (P : Pool) (was : ℕ → Bool) (before : (P place).phase ≡ retired → IsOneOf z was) where
  -- where the act leaves what each lane retired
  same-one : (act : Act) → (P place).phase ≡ retired → ((b : Bool) → retired_by z place act b ≡ b) → IsOneOf z (by-lane z place act was)
  same-one act is same =
      let one = before is in (
        one.0,
        one.1,
        ⊎_elim
            (λ (here : eqb (lane_of act) one.0 ≡ true). ap (λ (b : Bool). cond b (retired_by z place act (was one.0)) (was one.0)) here ∙ (same (was one.0) ∙ one.2))
            (λ (else : eqb (lane_of act) one.0 ≡ false). ap (λ (b : Bool). cond b (retired_by z place act (was one.0)) (was one.0)) else ∙ one.2)
            (cases_Bool (eqb (lane_of act) one.0)),
      )

  off-one : (act : Act) → touches act place ≡ false → (after z act P place).phase ≡ retired → IsOneOf z (by-lane z place act was)
  off-one act off is = same-one act (sym (ap (λ (s : Spot). s.phase) (after-else z P act place off)) ∙ is) (λ b. retired-off z place act b off)

  -- where it is of the place, and this isn't retired by it
  on-one : (act : Act) → ((changed z.last_generation act (P place)).phase ≡ retired → (P place).phase ≡ retired) → ((b : Bool) → retired_by z place act b ≡ b)
      → (after z act P place).phase ≡ retired → IsOneOf z (by-lane z place act was)
  on-one act back same is = ⊎_elim
      (λ (on : touches act place ≡ true). same-one act (back (sym (on-it z place P act on) ∙ is)) same)
      (λ (off : touches act place ≡ false). off-one act off is)
      (cases_Bool (touches act place))

  one-step : (act : Act) → lane_of act < (callers z) → Allowed z P act → (after z act P place).phase ≡ retired → IsOneOf z (by-lane z place act was)
  one-step (acts.Publish k key content with_ref) low ok is = ⊎_elim
      (λ (on : eqb place (place_of key) ≡ true). absurd (cc (sym (on-it z place P (acts.Publish k key content with_ref) on) ∙ is)))
      (λ (off : eqb place (place_of key) ≡ false). off-one (acts.Publish k key content with_ref) off is)
      (cases_Bool (eqb place (place_of key)))
  one-step (acts.Get k key None) low ok is = on-one (acts.Get k key None) (λ now. now) (λ b. refl) is
  one-step (acts.Get k key (Some content)) low ok is = on-one (acts.Get k key (Some content)) (gained-retired k (P place).phase) (λ b. refl) is
  one-step (acts.Release k key) low ok is = on-one (acts.Release k key) (lost-retired k (P place).phase) (λ b. refl) is
  one-step (acts.Clear k key true) low ok is = on-one (acts.Clear k key true) (marked-retired (P place).phase) (λ b. refl) is
  one-step (acts.Clear k key false) low ok is = on-one (acts.Clear k key false) (λ now. now) (λ b. refl) is
  one-step (acts.Reclaim k key) low ok is = ⊎_elim
      (λ (on : eqb place (place_of key) ≡ true).
      let last : eqb (P place).generation z.last_generation ≡ true
      = retired-last (eqb (P place).generation z.last_generation) (P place) k (sym (on-it z place P (acts.Reclaim k key) on) ∙ is) in (
        k,
        low,
        ap (λ (b : Bool). cond b (retired_by z place (acts.Reclaim k key) (was k)) (was k)) (eq-eqb k k refl)
            ∙ (ap (λ (b : Bool). cond b (eqb (generation_of key) z.last_generation) (was k)) on
            ∙ (ap (λ (g : ℕ). eqb g z.last_generation) (sym (reclaimed-at z place P k key ok on)) ∙ last)),
      ))
      (λ (off : eqb place (place_of key) ≡ false). off-one (acts.Reclaim k key) off is)
      (cases_Bool (eqb place (place_of key)))
  one-step (acts.Home k at) low ok is = ⊎_elim
      (λ (on : eqb place at ≡ true). absurd (cc (sym (on-it z place P (acts.Home k at) on) ∙ is)))
      (λ (off : eqb place at ≡ false). off-one (acts.Home k at) off is)
      (cases_Bool (eqb place at))
  one-step (acts.Collect k places) low ok is = ⊎_elim
      (λ (on : has places place ≡ true). absurd (cc (sym (on-it z place P (acts.Collect k places) on) ∙ is)))
      (λ (off : has places place ≡ false). off-one (acts.Collect k places) off is)
      (cases_Bool (has places place))

module _ (z : Shape) (place : ℕ) where
  one-from : (P : Pool) (history : List Act) (was : ℕ → Bool) → LegalFrom z P history → ((P place).phase ≡ retired → IsOneOf z was)
      → (pool_from z P history place).phase ≡ retired → IsOneOf z (λ l. has_retired z place (acts_of l history) (was l))
  one-from P [] was legal before is = before is
  one-from P (act ∷ more) was legal before is =
      let one = one-from (after z act P) more (by-lane z place act was) legal.2 (one-step z place P was before act legal.0 legal.1) is in (
        one.0,
        one.1,
        ⊎_elim
            (λ (here : eqb (lane_of act) one.0 ≡ true).
            ap (λ (b : Bool). has_retired z place (cond b (act ∷ acts_of one.0 more) (acts_of one.0 more)) (was one.0)) here
            ∙ (sym (ap (λ (b : Bool). has_retired z place (acts_of one.0 more) (cond b (retired_by z place act (was one.0)) (was one.0))) here) ∙ one.2))
            (λ (else : eqb (lane_of act) one.0 ≡ false).
            ap (λ (b : Bool). has_retired z place (cond b (act ∷ acts_of one.0 more) (acts_of one.0 more)) (was one.0)) else
            ∙ (sym (ap (λ (b : Bool). has_retired z place (acts_of one.0 more) (cond b (retired_by z place act (was one.0)) (was one.0))) else) ∙ one.2))
            (cases_Bool (eqb (lane_of act) one.0)),
      )

-- a retired place of a legal history is one that some lane retired
pub retired-by-one : (z : Shape) (history : List Act) (place : ℕ) → IsLegal z history → (pool_after z history place).phase ≡ retired
    → (l : ℕ) × (l < (callers z)) × (has_retired z place (acts_of l history) false ≡ true)
retired-by-one z history place legal is = one-from z place fresh history (λ l. false) legal (λ first. absurd (cc first)) is
