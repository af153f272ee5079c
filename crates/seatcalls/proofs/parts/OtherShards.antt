-- Which places of other shards are with a lane: its own acts tell.
use Rattle.std.proofs.Common.{arith, ◌≡◌, ◌≢◌, ⊎_elim, ℕ, ◌+◌, ◌<◌, Bool, true, false, not, cond, eqb, List, [], ◌∷◌, ◌++◌, Some, None, refl, ap, sym, ◌∙◌, subst, eq-eqb, ne_eqb, eqb-true}
use Rattle.std.proofs.lemmas.Bool.{cases_Bool}
use mathlib.Core.Logic.{dite}
use native.Mathlib.Decide.{ℕ_discrete}
use Rattle.keybits.specs.declared.shape.Shape.{Shape}
use Rattle.keybits.specs.Places.{shard_of}
use Rattle.keybits.specs.Shapes.{callers, is_place}
use Rattle.keybits.specs.Keys.{place_of, generation_of}
use Rattle.keybits.proofs.ShapeLemmas.{is_place-parts}
use Rattle.seqpool.specs.declared.act.Act.{Act}
use Rattle.seqpool.specs.declared.act.Act.TheVariants as acts
use Rattle.seqpool.specs.Pool.{Phase, with, published, home, retired, Spot, spot, Pool, has, gained, lost, marked, lane_of, Allowed, touches, changed, after, fresh, pool_from, pool_after, LegalFrom, IsLegal}
use Rattle.seqpool.specs.Histories.{acts_of}
use Rattle.seqpool.proofs.Growth.{after-here, after-else}
use Rattle.seqpool.proofs.Ranks.{current-key}
use Rattle.seqpool.proofs.Owns.{with-stays}
use Rattle.steplaws.proofs.HomePlaces.{with-one}
use Rattle.poolsteps.specs.PlaceLaws.{brings}
use Rattle.seatcalls.specs.Left.{left_by, left_with}

-- ---- acts of a lane, one after another

pub left-append : (z : Shape) (place : ℕ) (made more : List Act) (was : Bool) → left_with z place (made ++ more) was ≡ left_with z place more (left_with z place made was)
left-append z place [] more was = refl
left-append z place (act ∷ made) more was = left-append z place made more (left_by z place act was)

-- these acts leave no place of another shard than this with their lane
abbrev pub NoneAbroad : Shape → ℕ → List Act → Type 0
NoneAbroad z shard made = (place : ℕ) → is_place z place ≡ true → shard_of place ≢ shard → left_with z place made false ≡ false

pub abroad-append : (z : Shape) (shard : ℕ) (made more : List Act) → NoneAbroad z shard made → NoneAbroad z shard more → NoneAbroad z shard (made ++ more)
abroad-append z shard made more first rest place inside other =
    left-append z place made more false ∙ (ap (left_with z place more) (first place inside other) ∙ rest place inside other)

-- whichever it is, it is false
neither : (b : Bool) → cond b false false ≡ false
neither true = refl
neither false = refl

-- an act that doesn't bring a place doesn't leave it with the lane
unbrought : (z : Shape) (place : ℕ) (act : Act) → brings act place ≡ false → left_by z place act false ≡ false
unbrought z place (acts.Publish lane key content with_ref) none = neither (eqb place (place_of key))
unbrought z place (acts.Get lane key reply) none = refl
unbrought z place (acts.Release lane key) none = refl
unbrought z place (acts.Clear lane key reply) none = refl
unbrought z place (acts.Reclaim lane key) none = ap (λ (b : Bool). cond b (not (eqb (generation_of key) z.last_generation)) false) none
unbrought z place (acts.Home lane at) none = neither (eqb place at)
unbrought z place (acts.Collect lane places) none = ap (λ (b : Bool). cond b true false) none

-- so an act that brings no place of another shard leaves none
pub abroad-one : (z : Shape) (shard : ℕ) (act : Act) → ((place : ℕ) → is_place z place ≡ true → shard_of place ≢ shard → brings act place ≡ false) → NoneAbroad z shard (act ∷ [])
abroad-one z shard act none place inside other = unbrought z place act (none place inside other)

-- nor does a reclaim of a place of the shard
pub abroad-own : (z : Shape) (shard lane key : ℕ) → shard_of (place_of key) ≡ shard → NoneAbroad z shard (acts.Reclaim lane key ∷ [])
abroad-own z shard lane key own = abroad-one z shard (acts.Reclaim lane key) (λ p inside other. ne_eqb p (place_of key) (λ is. other (ap shard_of is ∙ own)))

-- nor one at the last generation
pub abroad-retired : (z : Shape) (shard lane key : ℕ) → generation_of key ≡ z.last_generation → NoneAbroad z shard (acts.Reclaim lane key ∷ [])
abroad-retired z shard lane key last p inside other =
    ap (λ (b : Bool). cond (eqb p (place_of key)) (not b) false) (eq-eqb (generation_of key) z.last_generation last) ∙ neither (eqb p (place_of key))

-- nor one with the return of its place behind it
pub abroad-returned : (z : Shape) (shard lane place key : ℕ) → place_of key ≡ place → NoneAbroad z shard (acts.Reclaim lane key ∷ acts.Home lane place ∷ [])
abroad-returned z shard lane place key same p inside other =
    let brought : Bool = left_by z p (acts.Reclaim lane key) false in dite (ℕ_discrete p place)
    (λ (here : p ≡ place). ap (λ (b : Bool). cond b false brought) (eq-eqb p place here))
    (λ (away : p ≢ place).
    let none : brought ≡ false = unbrought z p (acts.Reclaim lane key) (ne_eqb p (place_of key) (λ is. away (is ∙ same))) in
    ap (λ (b : Bool). cond (eqb p place) false b) none ∙ neither (eqb p place))

-- ---- histories

-- references and the mark bring no place to a lane
gained-back : (k l : ℕ) (f : Phase) → gained k f ≡ with l → f ≡ with l
gained-back k l (with m) is = is
gained-back k l (published content references mark) is = absurd (cc is)
gained-back k l home is = is
gained-back k l retired is = is

lost-back : (k l : ℕ) (f : Phase) → lost k f ≡ with l → f ≡ with l
lost-back k l (with m) is = is
lost-back k l (published content references mark) is = absurd (cc is)
lost-back k l home is = is
lost-back k l retired is = is

marked-back : (l : ℕ) (f : Phase) → marked f ≡ with l → f ≡ with l
marked-back l (with m) is = is
marked-back l (published content references mark) is = absurd (cc is)
marked-back l home is = is
marked-back l retired is = is

-- a place that is reclaimed to a lane wasn't at the last generation
reclaimed-below : (b : Bool) (s : Spot) (k l : ℕ) → (cond b (spot s.generation retired) (spot (s.generation + 1) (with k))).phase ≡ with l → b ≡ false
reclaimed-below true s k l is = absurd (cc is)
reclaimed-below false s k l is = refl

module _ (z : Shape) (l place : ℕ) where
  module _ (P : Pool) (was : Bool) (before : (P place).phase ≡ with l → was ≡ true) where
    -- an act of other places leaves it
    off-it : (act : Act) → touches act place ≡ false → (after z act P place).phase ≡ with l → was ≡ true
    off-it act off is = before (sym (ap (λ (s : Spot). s.phase) (after-else z P act place off)) ∙ is)

    -- an act of the place made it what it is then
    on-it : (act : Act) → touches act place ≡ true → (after z act P place).phase ≡ with l → (changed z.last_generation act (P place)).phase ≡ with l
    on-it act on is = sym (ap (λ (s : Spot). s.phase) (after-here z P act place on)) ∙ is

    -- so it is with an act that brings no place
    brings-none : (act : Act) → ((changed z.last_generation act (P place)).phase ≡ with l → (P place).phase ≡ with l) → (after z act P place).phase ≡ with l → was ≡ true
    brings-none act back is = ⊎_elim (λ (on : touches act place ≡ true). before (back (on-it act on is))) (λ (off : touches act place ≡ false). off-it act off is) (cases_Bool (touches act place))

    -- a place with the lane after an act of it is so by this act
    left-step : (act : Act) → Allowed z P act → (after z act P place).phase ≡ with l → left_by z place act was ≡ true
    left-step (acts.Publish k key content with_ref) ok is = ⊎_elim
        (λ (on : eqb place (place_of key) ≡ true). absurd (cc (on-it (acts.Publish k key content with_ref) on is)))
        (λ (off : eqb place (place_of key) ≡ false). ap (λ (b : Bool). cond b false was) off ∙ off-it (acts.Publish k key content with_ref) off is)
        (cases_Bool (eqb place (place_of key)))
    left-step (acts.Get k key None) ok is = brings-none (acts.Get k key None) (λ now. now) is
    left-step (acts.Get k key (Some content)) ok is = brings-none (acts.Get k key (Some content)) (gained-back k l (P place).phase) is
    left-step (acts.Release k key) ok is = brings-none (acts.Release k key) (lost-back k l (P place).phase) is
    left-step (acts.Clear k key true) ok is = brings-none (acts.Clear k key true) (marked-back l (P place).phase) is
    left-step (acts.Clear k key false) ok is = brings-none (acts.Clear k key false) (λ now. now) is
    left-step (acts.Reclaim k key) ok is = ⊎_elim
        (λ (on : eqb place (place_of key) ≡ true).
        let here : place ≡ place_of key = eqb-true place (place_of key) on in
        let same : (P place).generation ≡ generation_of key = ap (λ (p : ℕ). (P p).generation) here ∙ (current-key z P key ok.0).1 in
        let below : eqb (P place).generation z.last_generation ≡ false
        = reclaimed-below (eqb (P place).generation z.last_generation) (P place) k l (on-it (acts.Reclaim k key) on is) in
        ap (λ (b : Bool). cond b (not (eqb (generation_of key) z.last_generation)) was) on
        ∙ (ap (λ (g : ℕ). not (eqb g z.last_generation)) (sym same) ∙ ap not below))
        (λ (off : eqb place (place_of key) ≡ false).
        ap (λ (b : Bool). cond b (not (eqb (generation_of key) z.last_generation)) was) off ∙ off-it (acts.Reclaim k key) off is)
        (cases_Bool (eqb place (place_of key)))
    left-step (acts.Home k at) ok is = ⊎_elim
        (λ (on : eqb place at ≡ true). absurd (cc (on-it (acts.Home k at) on is)))
        (λ (off : eqb place at ≡ false). ap (λ (b : Bool). cond b false was) off ∙ off-it (acts.Home k at) off is)
        (cases_Bool (eqb place at))
    left-step (acts.Collect k places) ok is = ⊎_elim
        (λ (on : has places place ≡ true). ap (λ (b : Bool). cond b true was) on)
        (λ (off : has places place ≡ false). ap (λ (b : Bool). cond b true was) off ∙ off-it (acts.Collect k places) off is)
        (cases_Bool (has places place))

  -- a place with the lane after acts of all lanes is so by the lane's own
  left-from : (P : Pool) (history : List Act) (was : Bool) → LegalFrom z P history → ((P place).phase ≡ with l → was ≡ true)
      → (pool_from z P history place).phase ≡ with l → left_with z place (acts_of l history) was ≡ true
  left-from P [] was legal before is = before is
  left-from P (act ∷ more) was legal before is = dite (ℕ_discrete (lane_of act) l)
      (λ (mine : lane_of act ≡ l).
      ap (λ (b : Bool). left_with z place (cond b (act ∷ acts_of l more) (acts_of l more)) was) (eq-eqb (lane_of act) l mine)
      ∙ left-from (after z act P) more (left_by z place act was) legal.2 (left-step P was before act legal.1) is)
      (λ (other : lane_of act ≢ l).
      ap (λ (b : Bool). left_with z place (cond b (act ∷ acts_of l more) (acts_of l more)) was) (ne_eqb (lane_of act) l other)
      ∙ left-from (after z act P) more was legal.2 (λ now. before ((with-stays z l P act place legal.1 other).1 now)) is)

  -- and the lane is one of the shape
  below-from : (P : Pool) (history : List Act) → LegalFrom z P history → ((P place).phase ≡ with l → l < (callers z))
      → (pool_from z P history place).phase ≡ with l → l < (callers z)
  below-from P [] legal before is = before is
  below-from P (act ∷ more) legal before is = dite (ℕ_discrete (lane_of act) l)
      (λ (mine : lane_of act ≡ l). subst (λ (k : ℕ). k < (callers z)) mine legal.0)
      (λ (other : lane_of act ≢ l). below-from (after z act P) more legal.2 (λ now. before ((with-stays z l P act place legal.1 other).1 now)) is)

-- in a legal history a place that is with a lane is so by its own acts
pub with-own : (z : Shape) (history : List Act) (l place : ℕ) → IsLegal z history → (pool_after z history place).phase ≡ with l
    → left_with z place (acts_of l history) (eqb (shard_of place) l) ≡ true
with-own z history l place legal is =
    left-from z l place fresh history (eqb (shard_of place) l) legal (λ first. eq-eqb (shard_of place) l (with-one (shard_of place) l first)) is

-- and the lane is one of the shape
pub with-below : (z : Shape) (history : List Act) (l place : ℕ) → IsLegal z history → is_place z place ≡ true → (pool_after z history place).phase ≡ with l → l < (callers z)
with-below z history l place legal inside is =
    below-from z l place fresh history legal (λ first. let low = (is_place-parts z place inside).0 in subst (λ (k : ℕ). k < (callers z)) (with-one (shard_of place) l first) (omega arith)) is

-- where no lane has a place of another lane's shard by its acts, each place that is with a lane is of its shard
pub alone-at-end : (z : Shape) (h : List Act) → IsLegal z h
    → ((l place : ℕ) → l < (callers z) → is_place z place ≡ true → shard_of place ≢ l → left_with z place (acts_of l h) false ≡ false)
    → (place owner : ℕ) → is_place z place ≡ true → (pool_after z h place).phase ≡ with owner → shard_of place ≡ owner
alone-at-end z h legal alone place owner inside is = dite (ℕ_discrete (shard_of place) owner)
    (λ (same : shard_of place ≡ owner). same)
    (λ (other : shard_of place ≢ owner).
    let none = alone owner place (with-below z h owner place legal inside is) inside other in
    let start = ap (left_with z place (acts_of owner h)) (ne_eqb (shard_of place) owner other) in
    let bad : true ≡ false = sym (with-own z h owner place legal is) ∙ (start ∙ none) in absurd (cc bad))
