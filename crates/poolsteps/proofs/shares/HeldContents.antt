-- The content of a published place is that with which its key was published.
use Rattle.std.proofs.Common.{◌≡◌, ◌⊎◌, inl, inr, ⊎_elim, ℕ, zero, suc, ◌+◌, ◌<◌, Bool, true, false, cond, eqb, List, [], ◌∷◌, Option, Some, None, refl, ap, sym, ◌∙◌, subst, arith, eq-eqb, ne_eqb}
use Rattle.std.proofs.lemmas.Bool.{cases_Bool}
use mathlib.Core.Logic.{dite}
use native.Mathlib.Decide.{ℕ_discrete}
use Rattle.keybits.specs.declared.shape.Shape.{Shape}
use Rattle.keybits.specs.Keys.{place_of, generation_of, is_key}
use Rattle.seqpool.specs.declared.act.Act.{Act}
use Rattle.seqpool.specs.declared.act.Act.TheVariants as acts
use Rattle.seqpool.specs.Pool.{Phase, with, published, home, retired, Spot, spot, Pool, has, references_in, gained, lost, marked, is_current, references, Allowed, touches, changed, after, fresh, pool_from, pool_after, LegalFrom}
use Rattle.seqpool.specs.Histories.{PublishedAt}
use Rattle.seqpool.proofs.Growth.{after-here, after-else}
use Rattle.seqpool.proofs.Ranks.{same-key, current-key}
use Rattle.poolsteps.specs.PlaceLaws.{HeldContentLaw}

-- the content of the key of a place, whether it is marked or not
abbrev pub kept_in : Phase → Option (List ℕ)
kept_in (with owner) = None
kept_in (published content references mark) = Some content
kept_in home = None
kept_in retired = None

kept-gained : (l : ℕ) (f : Phase) → kept_in (gained l f) ≡ kept_in f
kept-gained l (with owner) = refl
kept-gained l (published content references mark) = refl
kept-gained l home = refl
kept-gained l retired = refl

kept-lost : (l : ℕ) (f : Phase) → kept_in (lost l f) ≡ kept_in f
kept-lost l (with owner) = refl
kept-lost l (published content references mark) = refl
kept-lost l home = refl
kept-lost l retired = refl

kept-marked : (f : Phase) → kept_in (marked f) ≡ kept_in f
kept-marked (with owner) = refl
kept-marked (published content references mark) = refl
kept-marked home = refl
kept-marked retired = refl

reclaimed-none : (ends : Bool) (s : Spot) (l : ℕ) → kept_in (cond ends (spot s.generation retired) (spot (s.generation + 1) (with l))).phase ≡ None
reclaimed-none true s l = refl
reclaimed-none false s l = refl

-- a place has this content, in this generation
abbrev pub Has : Spot → List ℕ → ℕ → Type 0
Has s content generation = (kept_in s.phase ≡ Some content) × (s.generation ≡ generation)

has-none : {P : Type 0} (s : Spot) (content : List ℕ) (generation : ℕ) → kept_in s.phase ≡ None → Has s content generation → P
has-none s content generation none it = let bad : None ≡ Some content = sym none ∙ it.0 in absurd (cc bad)

module _ (z : Shape) (key : ℕ) (inside : is_key z key ≡ true) (content : List ℕ) where
  -- the act publishes the key with the content
  abbrev Publishes : Act → Type 0
  Publishes act = (lane : ℕ) × (with_ref : Bool) × (act ≡ acts.Publish lane key content with_ref)

  -- where the place of the key has the content after an act, it had it before, or the act publishes it
  abbrev Comes : Pool → Act → Type 0
  Comes pool act = Has (after z act pool (place_of key)) content (generation_of key)
      → Has (pool (place_of key)) content (generation_of key) ⊎ Publishes act

  -- an act of one place
  at-one : (pool : Pool) (act : Act) (one : ℕ) → ((x : ℕ) → touches act x ≡ eqb x one)
      → (place_of key ≡ one → Has (changed z.last_generation act (pool (place_of key))) content (generation_of key)
      → Has (pool (place_of key)) content (generation_of key) ⊎ Publishes act)
      → Comes pool act
  at-one pool act one of here it = dite (ℕ_discrete (place_of key) one)
      (λ e. here e (subst (λ (s : Spot). Has s content (generation_of key)) (after-here z pool act (place_of key) (of (place_of key) ∙ eq-eqb (place_of key) one e)) it))
      (λ n. inl (subst (λ (s : Spot). Has s content (generation_of key)) (after-else z pool act (place_of key) (of (place_of key) ∙ ne_eqb (place_of key) one n)) it))

  comes : (pool : Pool) (act : Act) → Allowed z pool act → Comes pool act
  comes pool (acts.Publish l other c with_ref) ok = at-one pool (acts.Publish l other c with_ref) (place_of other) (λ x. refl)
      (λ here it.
      let now = current-key z pool other ok.0 in
      let generations : generation_of other ≡ generation_of key = sym now.1 ∙ (ap (λ (p : ℕ). (pool p).generation) (sym here) ∙ it.1) in
      let keys : other ≡ key = same-key z other key now.0 inside (sym here) generations in
      let contents : c ≡ content = cc it.0 in
      inr (l, with_ref, ap (λ (k : ℕ). acts.Publish l k c with_ref) keys ∙ ap (λ (d : List ℕ). acts.Publish l key d with_ref) contents))
  comes pool (acts.Get l other None) ok = at-one pool (acts.Get l other None) (place_of other) (λ x. refl) (λ here it. inl it)
  comes pool (acts.Get l other (Some c)) ok = at-one pool (acts.Get l other (Some c)) (place_of other) (λ x. refl)
      (λ here it. inl (sym (kept-gained l (pool (place_of key)).phase) ∙ it.0, it.1))
  comes pool (acts.Release l other) ok = at-one pool (acts.Release l other) (place_of other) (λ x. refl)
      (λ here it. inl (sym (kept-lost l (pool (place_of key)).phase) ∙ it.0, it.1))
  comes pool (acts.Clear l other true) ok = at-one pool (acts.Clear l other true) (place_of other) (λ x. refl)
      (λ here it. inl (sym (kept-marked (pool (place_of key)).phase) ∙ it.0, it.1))
  comes pool (acts.Clear l other false) ok = at-one pool (acts.Clear l other false) (place_of other) (λ x. refl) (λ here it. inl it)
  comes pool (acts.Reclaim l other) ok = at-one pool (acts.Reclaim l other) (place_of other) (λ x. refl)
      (λ here it. has-none (changed z.last_generation (acts.Reclaim l other) (pool (place_of key))) content (generation_of key)
      (reclaimed-none (eqb (pool (place_of key)).generation z.last_generation) (pool (place_of key)) l) it)
  comes pool (acts.Home l one) ok = at-one pool (acts.Home l one) one (λ x. refl)
      (λ here it. has-none (changed z.last_generation (acts.Home l one) (pool (place_of key))) content (generation_of key) refl it)
  comes pool (acts.Collect l places) ok = λ it. ⊎_elim
      (λ (in_it : has places (place_of key) ≡ true).
      has-none (changed z.last_generation (acts.Collect l places) (pool (place_of key))) content (generation_of key) refl
      (subst (λ (s : Spot). Has s content (generation_of key)) (after-here z pool (acts.Collect l places) (place_of key) in_it) it))
      (λ (isnt : has places (place_of key) ≡ false).
      inl (subst (λ (s : Spot). Has s content (generation_of key)) (after-else z pool (acts.Collect l places) (place_of key) isnt) it))
      (cases_Bool (has places (place_of key)))

  -- the key was published with the content, at some position
  abbrev IsPublished : List Act → Type 0
  IsPublished history = (j : ℕ) × PublishedAt history j key content

  first-published : (act : Act) (more : List Act) → Publishes act → IsPublished (act ∷ more)
  first-published act more (lane, with_ref, is) = (zero, (lane, with_ref, ap (λ (a : Act). let o : Option Act = Some a in o) is))

  later-published : (act : Act) (more : List Act) → IsPublished more → IsPublished (act ∷ more)
  later-published act more (j, at) = (suc j, at)

  -- what the place of the key has at the end it had at the start, or the key was published with it
  comes-from : (pool : Pool) (history : List Act) → LegalFrom z pool history → Has (pool_from z pool history (place_of key)) content (generation_of key)
      → Has (pool (place_of key)) content (generation_of key) ⊎ IsPublished history
  comes-from pool [] legal it = inl it
  comes-from pool (act ∷ more) legal it = ⊎_elim
      (λ (now : Has (after z act pool (place_of key)) content (generation_of key)). ⊎_elim
      (λ (was : Has (pool (place_of key)) content (generation_of key)). inl was)
      (λ (publishes : Publishes act). inr (first-published act more publishes))
      (comes pool act legal.1 now))
      (λ (later : IsPublished more). inr (later-published act more later))
      (comes-from (after z act pool) more legal.2 it)

  pub was-published : (history : List Act) → LegalFrom z fresh history → Has (pool_after z history (place_of key)) content (generation_of key) → IsPublished history
  was-published history legal it = ⊎_elim
      (λ (was : Has (fresh (place_of key)) content (generation_of key)). has-none (fresh (place_of key)) content (generation_of key) refl was)
      (λ (is : IsPublished history). is)
      (comes-from fresh history legal it)

-- a place to whose key a lane refers is published
pub held-phase : (f : Phase) (lane : ℕ) → 0 < references_in f lane → (content : List ℕ) × (refs : ℕ → ℕ) × (mark : Bool) × (f ≡ published content refs mark)
held-phase (with owner) lane some = absurd (omega arith)
held-phase (published content refs mark) lane some = (content, refs, mark, refl)
held-phase home lane some = absurd (omega arith)
held-phase retired lane some = absurd (omega arith)

-- a key to which a lane refers is at its place
pub held-current : (z : Shape) (pool : Pool) (lane key : ℕ) → 0 < references z pool lane key
    → (is_current z pool key ≡ true) × (0 < references_in (pool (place_of key)).phase lane)
held-current z pool lane key some = ⊎_elim
    (λ (is : is_current z pool key ≡ true).
    let e : references z pool lane key ≡ references_in (pool (place_of key)).phase lane = ap (λ b. cond b (references_in (pool (place_of key)).phase lane) 0) is in
    (is, omega arith))
    (λ (isnt : is_current z pool key ≡ false).
    let e : references z pool lane key ≡ 0 = ap (λ b. cond b (references_in (pool (place_of key)).phase lane) 0) isnt in
    absurd (omega arith))
    (cases_Bool (is_current z pool key))

pub held-content-law : HeldContentLaw
held-content-law z history lane key legal some =
    let held = held-current z (pool_after z history) lane key some in
    let now = current-key z (pool_after z history) key held.0 in
    let phase = held-phase (pool_after z history (place_of key)).phase lane held.1 in
    let was = was-published z key now.0 phase.0 history legal (ap kept_in phase.3, now.1) in
    (phase.0, phase.1, phase.2, phase.3, was.0, was.1)
