-- Phases, home places, lists of places, and who returned a place.
use Rattle.std.proofs.Common.{◌≡◌, ◌≢◌, ℕ, ◌<◌, ◌≤◌, Bool, true, false, cond, eqb, nat_lt, nat_le, ◌&&◌, ⊎_elim, List, [], ◌∷◌, ◌++◌, refl, ap, sym, ◌∙◌, arith, eq-eqb, ne_eqb}
use Rattle.std.proofs.lemmas.Bool.{eqb-true, and_parts, and_from, ltb-true, lt-ltb, leb-true, le-leb, cases_Bool}
use mathlib.Core.Logic.{dite}
use native.Mathlib.Decide.{ℕ_discrete}
use Rattle.keybits.specs.declared.shape.Shape.{Shape}
use Rattle.keybits.specs.Places.{shard_of}
use Rattle.keybits.specs.Shapes.{is_place, callers}
use Rattle.keybits.specs.Counts.{times}
use Rattle.keybits.proofs.CountLemmas.{one_at, none_at}
use Rattle.seqpool.specs.declared.act.Act.{Act}
use Rattle.seqpool.specs.declared.act.Act.TheVariants as acts
use Rattle.seqpool.specs.Pool.{Phase, with, published, home, retired, lane_of, has, NoRepeats, Pool, after, LegalFrom, pool_after}
use Rattle.steplaws.specs.Facts.{is_home, home_in, lane_home, guest_home, returner, returner_after, returners_after}
use Rattle.steplaws.proofs.Updates.{at-here, at-else}

-- ---- phases

pub with-one : (k l : ℕ) → with k ≡ with l → k ≡ l
with-one k l e = cc e

pub home-is : (f : Phase) → is_home f ≡ true → f ≡ home
home-is (with k) e = absurd (cc e)
home-is (published c r m) e = absurd (cc e)
home-is home e = refl
home-is retired e = absurd (cc e)

pub with-home : (f : Phase) (k : ℕ) → f ≡ with k → f ≡ home → ⊥
with-home f k e h = let bad : with k ≡ home = sym e ∙ h in cc bad

all_three : (a b c : Bool) → (a && (b && c)) ≡ true → (a ≡ true) × (b ≡ true) × (c ≡ true)
all_three true true c e = (refl, refl, e)
all_three true false c e = absurd (cc e)
all_three false b c e = absurd (cc e)

module _ (z : Shape) (h : List Act) (shard q : ℕ) where
  -- a home place of a shard
  pub record IsHome : Type 0 where
    pub inside : is_place z q ≡ true
    pub own : shard_of q ≡ shard
    pub home : (pool_after z h q).phase ≡ home

  pub home-parts : home_in z h shard q ≡ true → IsHome
  home-parts e = let t = all_three (is_place z q) (eqb (shard_of q) shard) (is_home (pool_after z h q).phase) e in
      record { inside = t.0; own = eqb-true (shard_of q) shard t.1; home = home-is (pool_after z h q).phase t.2 }

  pub home-from : is_place z q ≡ true → shard_of q ≡ shard → (pool_after z h q).phase ≡ home → home_in z h shard q ≡ true
  home-from inside own is =
      ap (λ (b : Bool). b && (eqb (shard_of q) shard && is_home (pool_after z h q).phase)) inside
      ∙ (ap (λ (b : Bool). b && is_home (pool_after z h q).phase) (eq-eqb (shard_of q) shard own) ∙ ap is_home is)

  -- home places of another shard, and of a place whose phase stays
  pub home-off : (k : List Act) → shard_of q ≢ shard → home_in z k shard q ≡ home_in z h shard q
  home-off k n = ap (λ (b : Bool). is_place z q && (b && is_home (pool_after z k q).phase)) (ne_eqb (shard_of q) shard n)
      ∙ sym (ap (λ (b : Bool). is_place z q && (b && is_home (pool_after z h q).phase)) (ne_eqb (shard_of q) shard n))

  pub home-same : (k : List Act) → (pool_after z k q).phase ≡ (pool_after z h q).phase → home_in z k shard q ≡ home_in z h shard q
  home-same k e = ap (λ (f : Phase). is_place z q && (eqb (shard_of q) shard && is_home f)) e

  pub not-home : (l : ℕ) → (pool_after z h q).phase ≡ with l → home_in z h shard q ≡ false
  not-home l e = ap (λ (f : Phase). is_place z q && (eqb (shard_of q) shard && is_home f)) e ∙ last_false (is_place z q) (eqb (shard_of q) shard)
    where
      last_false : (a b : Bool) → (a && (b && false)) ≡ false
      last_false true true = refl
      last_false true false = refl
      last_false false b = refl

-- ---- lists of places

-- whether a number is in a list, and how often
pub has-some : (n : ℕ) (xs : List ℕ) → 0 < times n xs → has xs n ≡ true
has-some n [] some = absurd (omega arith)
has-some n (x ∷ xs) some = dite (ℕ_discrete n x)
    (λ e. ap (λ (b : Bool). cond b true (has xs n)) (eq-eqb n x e))
    (λ d. let none = none_at x n (λ e. d (sym e)) in ap (λ (b : Bool). cond b true (has xs n)) (ne_eqb n x d) ∙ has-some n xs (omega arith))

pub has-none : (n : ℕ) (xs : List ℕ) → times n xs ≡ 0 → has xs n ≡ false
has-none n [] none = refl
has-none n (x ∷ xs) none = dite (ℕ_discrete n x)
    (λ e. let one = one_at x n (sym e) in absurd (omega arith))
    (λ d. ap (λ (b : Bool). cond b true (has xs n)) (ne_eqb n x d) ∙ has-none n xs (omega arith))

pub repeats-none : (xs : List ℕ) → ((n : ℕ) → times n xs ≤ 1) → NoRepeats xs
repeats-none [] once = tt
repeats-none (x ∷ xs) once = (
  has-none x xs (let one = one_at x x refl in let most = once x in omega arith),
  repeats-none xs (λ n. let most = once n in omega arith),
)

-- ---- who returned a place

pub returners-snoc : (f : ℕ → ℕ) (h : List Act) (act : Act) → returners_after f (h ++ act ∷ []) ≡ returner_after act (returners_after f h)
returners-snoc f [] act = refl
returners-snoc f (a ∷ more) act = returners-snoc (returner_after a f) more act

-- a legal history has none but its callers return places
returner-step : (z : Shape) (f : ℕ → ℕ) (act : Act) → ((q : ℕ) → f q < callers z) → (lane_of act < callers z) → (q : ℕ) → returner_after act f q < callers z
returner-step z f (acts.Publish l key content with_ref) low one q = low q
returner-step z f (acts.Get l key reply) low one q = low q
returner-step z f (acts.Release l key) low one q = low q
returner-step z f (acts.Clear l key reply) low one q = low q
returner-step z f (acts.Reclaim l key) low one q = low q
returner-step z f (acts.Home l place) low one q = dite (ℕ_discrete q place)
    (λ e. let is = at-here f place l q e in omega arith)
    (λ other. let is = at-else f place l q other in let old = low q in omega arith)
returner-step z f (acts.Collect l places) low one q = low q

pub returners-below : (z : Shape) (P : Pool) (h : List Act) (f : ℕ → ℕ) → ((q : ℕ) → f q < callers z) → LegalFrom z P h → (q : ℕ) → returners_after f h q < callers z
returners-below z P [] f low legal q = low q
returners-below z P (a ∷ more) f low legal q = returners-below z (after z a P) more (returner_after a f) (returner-step z f a low legal.0) legal.2 q

-- ---- home by a lane, and by a guest

module _ (z : Shape) (h : List Act) (shard q : ℕ) where
  pub lane-part : lane_home z h shard q ≡ true → (home_in z h shard q ≡ true) × (returner h q < z.lanes)
  lane-part e = let p = and_parts (home_in z h shard q) (nat_lt (returner h q) z.lanes) e in (p.0, ltb-true (returner h q) z.lanes p.1)

  pub guest-part : guest_home z h shard q ≡ true → (home_in z h shard q ≡ true) × (z.lanes ≤ returner h q)
  guest-part e = let p = and_parts (home_in z h shard q) (nat_le z.lanes (returner h q)) e in (p.0, leb-true z.lanes (returner h q) p.1)

  pub lane-from : home_in z h shard q ≡ true → returner h q < z.lanes → lane_home z h shard q ≡ true
  lane-from is low = and_from (home_in z h shard q) (nat_lt (returner h q) z.lanes) is (lt-ltb (returner h q) z.lanes low)

  pub guest-from : home_in z h shard q ≡ true → z.lanes ≤ returner h q → guest_home z h shard q ≡ true
  guest-from is high = and_from (home_in z h shard q) (nat_le z.lanes (returner h q)) is (le-leb z.lanes (returner h q) high)

  -- of a place that isn't home neither holds
  pub lane-off : home_in z h shard q ≡ false → lane_home z h shard q ≡ false
  lane-off none = ap (λ (b : Bool). b && nat_lt (returner h q) z.lanes) none

  pub guest-off : home_in z h shard q ≡ false → guest_home z h shard q ≡ false
  guest-off none = ap (λ (b : Bool). b && nat_le z.lanes (returner h q)) none

  -- nor of one that the other returned
  pub lane-none : z.lanes ≤ returner h q → lane_home z h shard q ≡ false
  lane-none high = ⊎_elim (λ (is : lane_home z h shard q ≡ true). let p = lane-part is in absurd (omega arith)) (λ (not : lane_home z h shard q ≡ false). not) (cases_Bool (lane_home z h shard q))

  pub guest-none : returner h q < z.lanes → guest_home z h shard q ≡ false
  guest-none low = ⊎_elim (λ (is : guest_home z h shard q ≡ true). let p = guest-part is in absurd (omega arith)) (λ (not : guest_home z h shard q ≡ false). not) (cases_Bool (guest_home z h shard q))

  -- and both stay where the place stays home, or not, and who returned it
  pub lane-same : (k : List Act) → home_in z k shard q ≡ home_in z h shard q → returner k q ≡ returner h q → lane_home z k shard q ≡ lane_home z h shard q
  lane-same k homes who = ap (λ (b : Bool). b && nat_lt (returner k q) z.lanes) homes ∙ ap (λ (l : ℕ). home_in z h shard q && nat_lt l z.lanes) who

  pub guest-same : (k : List Act) → home_in z k shard q ≡ home_in z h shard q → returner k q ≡ returner h q → guest_home z k shard q ≡ guest_home z h shard q
  guest-same k homes who = ap (λ (b : Bool). b && nat_le z.lanes (returner k q)) homes ∙ ap (λ (l : ℕ). home_in z h shard q && nat_le z.lanes l) who
