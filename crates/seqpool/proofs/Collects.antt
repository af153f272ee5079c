-- The places of a Collect, one after another.
use Rattle.std.proofs.Common.{◌≡◌, ◌≢◌, ℕ, zero, suc, ◌<◌, Bool, true, false, cond, eqb, ◌==◌, ◌||◌, List, [], ◌∷◌, ◌++◌, length, get_or, take, refl, sym, ap, ◌∙◌, arith, eq-eqb, ne_eqb, inl, inr}
use Rattle.std.specs.List.{list_any}
use Rattle.std.proofs.lemmas.Bool.{cases_Bool, cases_eq}
use mathlib.Core.Path.{fun_ext}
use mathlib.Core.Logic.{dite}
use native.Mathlib.Decide.{ℕ_discrete}
use Rattle.keybits.specs.declared.shape.Shape.{Shape}
use Rattle.keybits.specs.Places.{shard_of}
use Rattle.keybits.specs.Shapes.{is_place}
use Rattle.seqpool.specs.declared.act.Act.TheVariants.{Collect}
use Rattle.seqpool.specs.Pool.{with, home, spot, Pool, has, NoRepeats, AllHome, after}
use Rattle.seqpool.specs.Rows.{with_spot}
use Rattle.seqpool.proofs.Growth.{after-here}

same-test : (m n : ℕ) → eqb m n ≡ eqb n m
same-test m n = elim (cases_eq m n) [
  | inl same ↦ eq-eqb m n same ∙ sym (eq-eqb n m (sym same))
  | inr other ↦ ne_eqb m n other ∙ sym (ne_eqb n m (λ e. other (sym e)))
]

or-cond : (a b : Bool) → (a || b) ≡ cond a true b
or-cond true b = refl
or-cond false b = refl

pub any-has : (xs : List ℕ) (n : ℕ) → list_any (λ (y : ℕ). eqb y n) xs ≡ has xs n
any-has [] n = refl
any-has (x ∷ xs) n = ap (λ b. b || list_any (λ (y : ℕ). eqb y n) xs) (same-test x n) ∙ (ap (λ b. eqb n x || b) (any-has xs n) ∙ or-cond (eqb n x) (has xs n))

has-here : (xs : List ℕ) (x n : ℕ) → n ≡ x → has (x ∷ xs) n ≡ true
has-here xs x n same = ap (λ b. cond b true (has xs n)) (eq-eqb n x same)

has-else : (xs : List ℕ) (x n : ℕ) → n ≢ x → has (x ∷ xs) n ≡ has xs n
has-else xs x n other = ap (λ b. cond b true (has xs n)) (ne_eqb n x other)

-- one more place
has-push : (xs : List ℕ) (y n : ℕ) → n ≢ y → has (xs ++ y ∷ []) n ≡ has xs n
has-push [] y n other = has-else [] y n other
has-push (x ∷ xs) y n other = ap (λ r. cond (n == x) true r) (has-push xs y n other)

has-pushed : (xs : List ℕ) (y n : ℕ) → n ≡ y → has (xs ++ y ∷ []) n ≡ true
has-pushed [] y n same = has-here [] y n same
has-pushed (x ∷ xs) y n same = elim (cases_Bool (n == x)) [
  | inl is ↦ ap (λ b. cond b true (has (xs ++ y ∷ []) n)) is
  | inr isnt ↦ ap (λ b. cond b true (has (xs ++ y ∷ []) n)) isnt ∙ has-pushed xs y n same
]

-- what isn't in a list is neither its first nor in the rest
not-in : (xs : List ℕ) (x n : ℕ) → has (x ∷ xs) n ≡ false → (n ≢ x) × (has xs n ≡ false)
not-in xs x n isnt = dite (ℕ_discrete n x)
    (λ same. let bad : true ≡ false = sym (has-here xs x n same) ∙ isnt in absurd (cc bad))
    (λ other. (other, sym (has-else xs x n other) ∙ isnt))

pub repeats-more : (xs : List ℕ) (y : ℕ) → NoRepeats xs → has xs y ≡ false → NoRepeats (xs ++ y ∷ [])
repeats-more [] y none isnt = (refl, tt)
repeats-more (x ∷ xs) y none isnt = let parts = not-in xs x y isnt in
    (has-push xs y x (λ e. parts.0 (sym e)) ∙ none.0, repeats-more xs y none.1 parts.1)

pub repeats-at : (xs : List ℕ) (i d : ℕ) → i < length xs → NoRepeats xs → has (take i xs) (get_or xs i d) ≡ false
repeats-at [] i d below none = absurd (omega arith)
repeats-at (x ∷ xs) zero d below none = refl
repeats-at (x ∷ xs) (suc i) d below none =
    has-else (take i xs) x (get_or xs i d) (apart xs i d (omega arith) none.0) ∙ repeats-at xs i d (omega arith) none.1
  where
    apart : (ys : List ℕ) (j e : ℕ) → j < length ys → has ys x ≡ false → get_or ys j e ≢ x
    apart [] j e below isnt same = absurd (omega arith)
    apart (y ∷ ys) zero e below isnt same = (not-in ys y x isnt).0 (sym same)
    apart (y ∷ ys) (suc j) e below isnt same = apart ys j e (omega arith) (not-in ys y x isnt).1 same

module _ (z : Shape) (P : Pool) (lane : ℕ) where
  -- a place that is home and of the lane's shard
  abbrev pub IsHere : ℕ → Type 0
  IsHere place = (is_place z place ≡ true) × (shard_of place ≡ lane) × ((P place).phase ≡ home)

  pub home-more : (xs : List ℕ) (y : ℕ) → AllHome z P lane xs → IsHere y → AllHome z P lane (xs ++ y ∷ [])
  home-more [] y all is = (is.0, is.1, is.2, tt)
  home-more (x ∷ xs) y all is = (all.0, all.1, all.2, home-more xs y all.3 is)

  pub home-at : (xs : List ℕ) (i d : ℕ) → i < length xs → AllHome z P lane xs → IsHere (get_or xs i d)
  home-at [] i d below all = absurd (omega arith)
  home-at (x ∷ xs) zero d below all = (all.0, all.1, all.2)
  home-at (x ∷ xs) (suc i) d below all = home-at xs i d (omega arith) all.3

  -- the first places and one more are taken
  pub collects-more : (Q R : Pool) (xs : List ℕ) (y generation : ℕ) → Q ≡ after z (Collect lane xs) P → (Q y).generation ≡ generation
      → R ≡ with_spot Q y (spot generation (with lane)) → R ≡ after z (Collect lane (xs ++ y ∷ [])) P
  collects-more Q R xs y generation so_far same wrote = wrote ∙ fun_ext (λ x. dite (ℕ_discrete x y)
      (λ here. ap (λ b. cond b (spot generation (with lane)) (Q x)) (eq-eqb x y here)
      ∙ (ap (λ (g : ℕ). spot g (with lane)) (sym same ∙ (ap (λ (p : ℕ). (Q p).generation) (sym here) ∙ kept x))
      ∙ sym (after-here z P (Collect lane (xs ++ y ∷ [])) x (has-pushed xs y x here))))
      (λ other. ap (λ b. cond b (spot generation (with lane)) (Q x)) (ne_eqb x y other)
      ∙ (ap (λ (S : Pool). S x) so_far ∙ ap (λ b. cond b (spot (P x).generation (with lane)) (P x)) (sym (has-push xs y x other)))))
    where
      kept : (x : ℕ) → (Q x).generation ≡ (P x).generation
      kept x = ap (λ (S : Pool). (S x).generation) so_far ∙ elim (cases_Bool (has xs x)) [
        | inl is ↦ ap (λ b. (cond b (spot (P x).generation (with lane)) (P x)).generation) is
        | inr isnt ↦ ap (λ b. (cond b (spot (P x).generation (with lane)) (P x)).generation) isnt
      ]

  pub collects-none : P ≡ after z (Collect lane []) P
  collects-none = refl

-- nothing is true of what can't be
pub from-false : {P : Type 0} → false ≡ true → P
from-false e = absurd (cc e)
