-- Registers that change one at a time, and what they hold.
use Rattle.std.proofs.Common.{◌≡◌, ◌≢◌, ℕ, zero, suc, ◌+◌, ◌<◌, Bool, cond, List, [], ◌∷◌, length, set, refl, ap, arith, eq-eqb}
use Rattle.keybits.specs.declared.shape.Shape.{Shape}
use Rattle.keybits.specs.Keys.{place_of}
use Rattle.keybits.specs.Counts.{times}
use Rattle.seqpool.specs.declared.act.Act.{Act}
use Rattle.seqpool.specs.Pool.{Pool}
use Rattle.traces.specs.declared.registers.RegisterState.{RegisterState}
use Rattle.traces.specs.declared.registers.Holding.{Holding}
use Rattle.traces.specs.declared.registers.Holding.TheVariants.{Empty, Filling, Reference}
use Rattle.traces.specs.Registers.{register_at, fills, refers, fillings, held_references}
use Rattle.traces.specs.Books.{written}
use Rattle.traces.specs.Owning.{publishes, IsHolding, AreHolding}

-- one register is another
pub fillings-set : (place : ℕ) (xs : List RegisterState) (i : ℕ) (y : RegisterState)
    → i < length xs → fillings place (set xs i y) + fills place (register_at xs i).holding ≡ fillings place xs + fills place y.holding
fillings-set place [] i y inside = absurd (omega arith)
fillings-set place (x ∷ xs) zero y inside = omega arith
fillings-set place (x ∷ xs) (suc i) y inside = let r = fillings-set place xs i y (omega arith) in omega arith

pub held_references-set : (key : ℕ) (xs : List RegisterState) (i : ℕ) (y : RegisterState)
    → i < length xs → held_references key (set xs i y) + refers key (register_at xs i).holding ≡ held_references key xs + refers key y.holding
held_references-set key [] i y inside = absurd (omega arith)
held_references-set key (x ∷ xs) zero y inside = omega arith
held_references-set key (x ∷ xs) (suc i) y inside = let r = held_references-set key xs i y (omega arith) in omega arith

module _ (z : Shape) (P : Pool) (made : List Act) where
  pub holding-set : (xs : List RegisterState) (i : ℕ) (y : RegisterState) → AreHolding z P made xs → IsHolding z P made y.holding
      → AreHolding z P made (set xs i y)
  holding-set [] i y all one = tt
  holding-set (x ∷ xs) zero y all one = (one, all.1)
  holding-set (x ∷ xs) (suc i) y all one = (all.0, holding-set xs i y all.1 one)

  pub holding-at : (xs : List RegisterState) (i : ℕ) → AreHolding z P made xs → IsHolding z P made (register_at xs i).holding
  holding-at [] i all = tt
  holding-at (x ∷ xs) zero all = all.0
  holding-at (x ∷ xs) (suc i) all = holding-at xs i all.1

  -- where nothing was published
  settled-one : (h : Holding) → publishes made ≡ [] → IsHolding z P made h → IsHolding z P [] h
  settled-one Empty none held = held
  settled-one (Filling key content) none held = (held.0, λ e. held.1 (ap (times (place_of key)) none))
  settled-one (Reference key content) none held = held

  pub holding-idle : (xs : List RegisterState) → publishes made ≡ [] → AreHolding z P made xs → AreHolding z P [] xs
  holding-idle [] none all = tt
  holding-idle (x ∷ xs) none all = (settled-one x.holding none all.0, holding-idle xs none all.1)

  -- where one place was published, which no register fills
  published-one : (place : ℕ) (h : Holding) → ((q : ℕ) → q ≢ place → times q (publishes made) ≡ 0) → fills place h ≡ 0 → IsHolding z P made h
      → IsHolding z P [] h
  published-one place Empty only none held = held
  published-one place (Filling key content) only none held = (
    held.0,
    λ e. held.1 (only (place_of key) (λ same.
        let one : fills place (Filling key content) ≡ 1 = ap (λ (b : Bool). cond b 1 0) (eq-eqb (place_of key) place same) in absurd (omega arith))),
  )
  published-one place (Reference key content) only none held = held

  pub holding-published : (place : ℕ) (xs : List RegisterState) → ((q : ℕ) → q ≢ place → times q (publishes made) ≡ 0)
      → fillings place xs ≡ 0 → AreHolding z P made xs → AreHolding z P [] xs
  holding-published place [] only none all = tt
  holding-published place (x ∷ xs) only none all =
      (published-one place x.holding only (omega arith) all.0, holding-published place xs only (omega arith) all.1)

-- more bytes change neither a filling's place nor a reference
pub fills-written : (place : ℕ) (bytes : List ℕ) (h : Holding) → fills place (written bytes h) ≡ fills place h
fills-written place bytes Empty = refl
fills-written place bytes (Filling key content) = refl
fills-written place bytes (Reference key content) = refl

pub refers-written : (key : ℕ) (bytes : List ℕ) (h : Holding) → refers key (written bytes h) ≡ refers key h
refers-written key bytes Empty = refl
refers-written key bytes (Filling at content) = refl
refers-written key bytes (Reference at content) = refl

pub holding-written : (z : Shape) (P : Pool) (made : List Act) (bytes : List ℕ) (h : Holding) → IsHolding z P made h
    → IsHolding z P made (written bytes h)
holding-written z P made bytes Empty held = held
holding-written z P made bytes (Filling key content) held = held
holding-written z P made bytes (Reference key content) held = held
