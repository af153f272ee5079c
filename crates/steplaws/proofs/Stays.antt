-- A home place, and who returned it, stay while the lane of its shard makes no act.
use Rattle.std.proofs.Common.{◌≡◌, ◌≢◌, ⊎_elim, ℕ, Bool, true, false, cond, List, [], ◌∷◌, ◌++◌, refl, ap, sym, ◌∙◌, subst, ne_eqb}
use Rattle.std.proofs.lemmas.Bool.{cases_Bool}
use mathlib.Core.Logic.{dite}
use native.Mathlib.Decide.{ℕ_discrete}
use Rattle.keybits.specs.declared.shape.Shape.{Shape}
use Rattle.keybits.specs.Places.{shard_of}
use Rattle.seqpool.specs.declared.act.Act.{Act}
use Rattle.seqpool.specs.declared.act.Act.TheVariants as acts
use Rattle.seqpool.specs.Pool.{with, home, Spot, Pool, has, AllHome, references, lane_of, Allowed, after, fresh, pool_from, LegalFrom, pool_after, IsLegal}
use Rattle.seqpool.proofs.Growth.{pool-append, legal-rest, after-else, others-first}
use Rattle.seqpool.proofs.Tallies.{references-stay}
use Rattle.steplaws.specs.Facts.{is_home, home_in, returner_after, returners_after, returner}
use Rattle.steplaws.proofs.Updates.{at-else}
use Rattle.steplaws.proofs.HomePlaces.{with-home, home-is, home-parts, home-from}
use Rattle.steplaws.proofs.Acts.{IsLife, life-homes, life-returner}
use Rattle.seqpool.specs.Histories.{acts_of}
use Rattle.seqpool.proofs.Owns.{with-stays}
use Rattle.std.proofs.Common.{◌↔◌}
use Rattle.steplaws.specs.MomentLaws.{HomeStaysLaw, OwnActsLaw}

all-own : (z : Shape) (P : Pool) (l : ℕ) (xs : List ℕ) (p : ℕ) → AllHome z P l xs → has xs p ≡ true → shard_of p ≡ l
all-own z P l [] p all in_it = absurd (cc in_it)
all-own z P l (x ∷ xs) p all in_it = dite (ℕ_discrete p x)
    (λ e. ap shard_of e ∙ all.1)
    (λ n. all-own z P l xs p all.3 (sym (ap (λ (b : Bool). cond b true (has xs p)) (ne_eqb p x n)) ∙ in_it))

module _ (z : Shape) (lane p : ℕ) (own : shard_of p ≡ lane) where
  abbrev Stays : Pool → (ℕ → ℕ) → Act → Type 0
  Stays P f act = ((after z act P p).phase ≡ home) × (returner_after act f p ≡ f p)

  by_life : (P : Pool) (f : ℕ → ℕ) (act : Act) → Allowed z P act → IsLife act → (P p).phase ≡ home → Stays P f act
  by_life P f act ok life is = (home-is (after z act P p).phase (life-homes z P p act ok life ∙ ap is_home is), ap (λ (g : ℕ → ℕ). g p) (life-returner f act life))

  step : (P : Pool) (f : ℕ → ℕ) (act : Act) → Allowed z P act → lane_of act ≢ lane → (P p).phase ≡ home → Stays P f act
  step P f (acts.Publish l key content with_ref) ok other is = by_life P f (acts.Publish l key content with_ref) ok tt is
  step P f (acts.Get l key reply) ok other is = by_life P f (acts.Get l key reply) ok tt is
  step P f (acts.Release l key) ok other is = by_life P f (acts.Release l key) ok tt is
  step P f (acts.Clear l key reply) ok other is = by_life P f (acts.Clear l key reply) ok tt is
  step P f (acts.Reclaim l key) ok other is = by_life P f (acts.Reclaim l key) ok tt is
  step P f (acts.Home l place) ok other is =
      let n : p ≢ place = λ e. with-home (P place).phase l ok.1 (ap (λ (q : ℕ). (P q).phase) (sym e) ∙ is) in
      (ap (λ (s : Spot). s.phase) (after-else z P (acts.Home l place) p (ne_eqb p place n)) ∙ is, at-else f place l p n)
  step P f (acts.Collect l places) ok other is = (
    ⊎_elim
        (λ (yes : has places p ≡ true). absurd (other (sym (all-own z P l places p ok.2 yes) ∙ own)))
        (λ (no : has places p ≡ false). ap (λ (s : Spot). s.phase) (after-else z P (acts.Collect l places) p no) ∙ is)
        (cases_Bool (has places p)),
    refl,
  )

  stays : (P : Pool) (f : ℕ → ℕ) (more : List Act) → LegalFrom z P more → acts_of lane more ≡ [] → (P p).phase ≡ home
      → ((pool_from z P more p).phase ≡ home) × (returners_after f more p ≡ f p)
  stays P f [] legal none is = (is, refl)
  stays P f (a ∷ more) legal none is =
      let n = others-first lane a more none in
      let s = step P f a legal.1 n.0 is in
      let rest = stays (after z a P) (returner_after a f) more legal.2 n.1 s.0 in
      (rest.0, rest.1 ∙ s.1)

returners-append : (f : ℕ → ℕ) (xs ys : List Act) → returners_after f (xs ++ ys) ≡ returners_after (returners_after f xs) ys
returners-append f [] ys = refl
returners-append f (x ∷ xs) ys = returners-append (returner_after x f) xs ys

-- home then, and no act of its lane since: home now, and returned by the same lane
pub home_stays : (z : Shape) (seen between : List Act) (lane p : ℕ) → IsLegal z (seen ++ between) → acts_of lane between ≡ [] → home_in z seen lane p ≡ true
    → (home_in z (seen ++ between) lane p ≡ true) × (returner (seen ++ between) p ≡ returner seen p)
home_stays z seen between lane p legal none is =
    let h = home-parts z seen lane p is in
    let s = stays z lane p h.own (pool_after z seen) (returner seen) between (legal-rest z fresh seen between legal) none h.home in (
      home-from z (seen ++ between) lane p h.inside h.own (ap (λ (P : Pool). (P p).phase) (pool-append z fresh seen between) ∙ s.0),
      ap (λ (f : ℕ → ℕ). f p) (returners-append (λ _. 0) seen between) ∙ s.1,
    )

pub home-stays-law : HomeStaysLaw
home-stays-law z history more lane place legal none is = home_stays z history more lane place legal none is

-- ---- what a lane alone changes

module _ (z : Shape) (lane : ℕ) where
  abbrev Both : Pool → Pool → Type 0
  Both P Q = ((place : ℕ) → ((P place).phase ≡ with lane) ↔ ((Q place).phase ≡ with lane)) × ((key : ℕ) → references z Q lane key ≡ references z P lane key)

  both-stay : (P : Pool) (more : List Act) → LegalFrom z P more → acts_of lane more ≡ [] → Both P (pool_from z P more)
  both-stay P [] legal none = (λ place. (λ is. is, λ is. is), λ key. refl)
  both-stay P (a ∷ more) legal none =
      let n = others-first lane a more none in
      let rest = both-stay (after z a P) more legal.2 n.1 in (
        λ place. let first = with-stays z lane P a place legal.1 n.0 in let second = rest.0 place in (λ is. second.0 (first.0 is), λ is. first.1 (second.1 is)),
        λ key. rest.1 key ∙ references-stay z key lane P a legal.1 n.0,
      )

pub own-law : OwnActsLaw
own-law z history more lane legal none =
    let stay = both-stay z lane (pool_after z history) more (legal-rest z fresh history more legal) none in
    subst (λ (Q : Pool). Both z lane (pool_after z history) Q) (sym (pool-append z fresh history more)) stay
