-- Functions changed at one lane, or at one shard and lane.
use Rattle.std.proofs.Common.{◌≡◌, ◌≢◌, ℕ, Bool, true, false, cond, eqb, ◌&&◌, ap, sym, ◌∙◌, subst, eq-eqb, ne_eqb}
use mathlib.Core.Logic.{dite}
use native.Mathlib.Decide.{ℕ_discrete}
use Rattle.steplaws.specs.Facts.{put_at, put_two}

-- a function at the number where it was changed, and at others
pub at-here : {A : Type 0} (f : ℕ → A) (i : ℕ) (x : A) (j : ℕ) → j ≡ i → put_at f i x j ≡ x
at-here f i x j e = ap (λ (b : Bool). cond b x (f j)) (eq-eqb j i e)

pub at-else : {A : Type 0} (f : ℕ → A) (i : ℕ) (x : A) (j : ℕ) → j ≢ i → put_at f i x j ≡ f j
at-else f i x j n = ap (λ (b : Bool). cond b x (f j)) (ne_eqb j i n)

-- what holds of each lane after a change at one
pub at-lane : {A : Type 0} (f : ℕ → A) (lane : ℕ) (x : A) (P : ℕ → A → Type 0) (m : ℕ) → P lane x → (m ≢ lane → P m (f m)) → P m (put_at f lane x m)
at-lane {A} f lane x P m here there = dite (ℕ_discrete m lane)
    (λ e. subst (λ (y : A). P m y) (sym (at-here f lane x m e)) (subst (λ (n : ℕ). P n x) (sym e) here))
    (λ ne. subst (λ (y : A). P m y) (sym (at-else f lane x m ne)) (there ne))

-- the same of two numbers
pub two-here : (f : ℕ → ℕ → ℕ) (i k x j m : ℕ) → j ≡ i → m ≡ k → put_two f i k x j m ≡ x
two-here f i k x j m e d = ap (λ (b : Bool). cond (b && eqb m k) x (f j m)) (eq-eqb j i e) ∙ ap (λ (b : Bool). cond (true && b) x (f j m)) (eq-eqb m k d)

pub two-row : (f : ℕ → ℕ → ℕ) (i k x j m : ℕ) → j ≢ i → put_two f i k x j m ≡ f j m
two-row f i k x j m n = ap (λ (b : Bool). cond (b && eqb m k) x (f j m)) (ne_eqb j i n)

pub two-else : (f : ℕ → ℕ → ℕ) (i k x j m : ℕ) → m ≢ k → put_two f i k x j m ≡ f j m
two-else f i k x j m n = dite (ℕ_discrete j i)
    (λ e. ap (λ (b : Bool). cond (b && eqb m k) x (f j m)) (eq-eqb j i e) ∙ ap (λ (b : Bool). cond (true && b) x (f j m)) (ne_eqb m k n))
    (λ d. two-row f i k x j m d)

-- what holds of two values holds of the one that is chosen
pub chosen : (b : Bool) (x y : ℕ) (P : ℕ → Type 0) → P x → P y → P (cond b x y)
chosen true x y P p q = p
chosen false x y P p q = q

pub chosen-two : (b : Bool) (x y u v : ℕ) (P : ℕ → ℕ → Type 0) → P x u → P y v → P (cond b x y) (cond b u v)
chosen-two true x y u v P p q = p
chosen-two false x y u v P p q = q
