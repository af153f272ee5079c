-- What holds of each number, of each slot and of a status, by cases.
use Rattle.std.proofs.Common.{◌≡◌, ◌≢◌, ℕ, refl, sym, subst}
use mathlib.Core.Logic.{dite}
use native.Mathlib.Decide.{ℕ_discrete}
use Rattle.poolsteps.specs.declared.view.Status.{Status}
use Rattle.poolsteps.specs.declared.view.Status.TheVariants.{Untouched, Emptied, InHand, Whole}

-- what holds of one number, and of every other, holds of each
pub each-number : {P : ℕ → Type 0} (one : ℕ) → P one → ((n : ℕ) → n ≢ one → P n) → (n : ℕ) → P n
each-number {P} one here else n = dite (ℕ_discrete n one) (λ e. subst P (sym e) here) (λ other. else n other)

-- what holds of one slot, of the other slots of its place, and of those of every other place, holds of each
pub each-slot : {P : ℕ → ℕ → Type 0} (place number : ℕ)
    → P place number → ((k : ℕ) → k ≢ number → P place k) → ((p k : ℕ) → p ≢ place → P p k) → (p k : ℕ) → P p k
each-slot {P} place number here beside else =
    each-number {P = λ p. (k : ℕ) → P p k} place (each-number {P = λ k. P place k} number here beside) (λ p other k. else p k other)

-- a slot that a lane can't have touched it left alone
pub untouched-is : (x : Status) → (x ≢ Untouched → ⊥) → x ≡ Untouched
untouched-is Untouched never = refl
untouched-is Emptied never = absurd (never (λ e. cc e))
untouched-is InHand never = absurd (never (λ e. cc e))
untouched-is Whole never = absurd (never (λ e. cc e))
