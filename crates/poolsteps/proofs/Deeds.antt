-- A lane's record and the shares agree after it returned a place, and after it collected places.
use Rattle.std.proofs.Common.{◌≡◌, ◌≢◌, ℕ, Bool, true, cond, eqb, ◌&&◌, List, [], ◌∷◌, refl, ap, sym, ◌∙◌, eq-eqb, ne_eqb}
use mathlib.Core.Logic.{dite}
use native.Mathlib.Decide.{ℕ_discrete}
use Rattle.seqpool.specs.Pool.{has}
use Rattle.poolsteps.specs.declared.view.Status.{Status}
use Rattle.poolsteps.specs.declared.view.Status.TheVariants.{Untouched}
use Rattle.poolsteps.specs.declared.view.Stored.{Stored}
use Rattle.poolsteps.specs.Shares.{Stock, at_rest, after_home, after_collect}
use Rattle.poolsteps.specs.declared.view.Deed.{Deed}
use Rattle.poolsteps.specs.declared.view.Deed.TheVariants.{Returned, Collected}
use Rattle.poolsteps.specs.Views.{status_in, known_in}
use Rattle.poolsteps.specs.Returned.{with_cells}

-- the cells of these places are known, and the others as before
known-with : (stored : ℕ → Stored) (places : List ℕ) (cells : List (ℕ × Stored)) (p : ℕ)
    → known_in (with_cells stored places cells) p ≡ cond (has places p) (stored p) (known_in cells p)
known-with stored [] cells p = refl
known-with stored (place ∷ more) cells p =
    let rest : Stored = known_in (with_cells stored more cells) p in
    let old : Stored = known_in cells p in dite (ℕ_discrete p place)
    (λ here. ap (λ (b : Bool). cond b (stored place) rest) (eq-eqb p place here)
    ∙ (ap stored (sym here) ∙ sym (ap (λ (b : Bool). cond (cond b true (has more p)) (stored p) old) (eq-eqb p place here))))
    (λ other. ap (λ (b : Bool). cond b (stored place) rest) (ne_eqb p place other)
    ∙ (known-with stored more cells p ∙ sym (ap (λ (b : Bool). cond (cond b true (has more p)) (stored p) old) (ne_eqb p place other))))

-- at the lane itself it is as the rest says, and at another lane as it was
at-own : {A : Type 0} (lane : ℕ) (of : Bool) (x y : A) → cond (eqb lane lane && of) x y ≡ cond of x y
at-own lane of x y = ap (λ (b : Bool). cond (b && of) x y) (eq-eqb lane lane refl)

at-other : {A : Type 0} (l lane : ℕ) → l ≢ lane → (of : Bool) (x y : A) → cond (eqb l lane && of) x y ≡ y
at-other l lane other of x y = ap (λ (b : Bool). cond (b && of) x y) (ne_eqb l lane other)

module _ (q : Stock) (lane : ℕ) (deeds : List Deed) (are : (p k : ℕ) → status_in lane deeds p k ≡ q.status lane p k) where
  pub home-deeds : (place p k : ℕ) → status_in lane (Returned place ∷ deeds) p k ≡ (after_home q lane place).status lane p k
  home-deeds place p k = ap (λ (x : Status). cond (eqb p place) Untouched x) (are p k) ∙ sym (at-own lane (eqb p place) Untouched (q.status lane p k))

  pub collect-deeds : (places : List ℕ) (p k : ℕ) → status_in lane (Collected places ∷ deeds) p k ≡ (after_collect q lane places).status lane p k
  collect-deeds places p k =
      ap (λ (x : Status). cond (has places p) (at_rest p k) x) (are p k) ∙ sym (at-own lane (has places p) (at_rest p k) (q.status lane p k))

pub collect-cells : (q : Stock) (lane : ℕ) (cells : List (ℕ × Stored)) → ((p : ℕ) → known_in cells p ≡ q.knows lane p) → (places : List ℕ) (p : ℕ)
    → known_in (with_cells q.stored places cells) p ≡ (after_collect q lane places).knows lane p
collect-cells q lane cells are places p = known-with q.stored places cells p
    ∙ (ap (λ (x : Stored). cond (has places p) (q.stored p) x) (are p) ∙ sym (at-own lane (has places p) (q.stored p) (q.knows lane p)))

module _ (q : Stock) (lane l : ℕ) (other : l ≢ lane) where
  pub home-others : (place p k : ℕ) → (after_home q lane place).status l p k ≡ q.status l p k
  home-others place p k = at-other l lane other (eqb p place) Untouched (q.status l p k)

  pub collect-others : (places : List ℕ) (p k : ℕ) → (after_collect q lane places).status l p k ≡ q.status l p k
  collect-others places p k = at-other l lane other (has places p) (at_rest p k) (q.status l p k)

  pub collect-unknown : (places : List ℕ) (p : ℕ) → (after_collect q lane places).knows l p ≡ q.knows l p
  collect-unknown places p = at-other l lane other (has places p) (q.stored p) (q.knows l p)
