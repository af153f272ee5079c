-- What is kept before each step and each reply of a lawful trace, and where lanes stand between turns.
use Rattle.std.specs.Prelude.{◌≡◌, ◌⊎◌, ℕ, ◌<◌, true, false, List, [], ◌∷◌, is_some}
use Rattle.keybits.specs.declared.shape.Shape.{Shape}
use Rattle.keybits.specs.declared.step.Step.{Step}
use Rattle.keybits.specs.declared.step.Kind.{Kind}
use Rattle.keybits.specs.declared.step.Kind.TheVariants as kinds
use Rattle.keybits.specs.Keys.{is_key}
use Rattle.keybits.specs.Counts.{times}
use Rattle.seqpool.specs.declared.act.Act.{Act}
use Rattle.seqpool.specs.declared.act.Act.TheVariants as acts
use Rattle.seqpool.specs.Pool.{Pool, pool_after}
use Rattle.traces.specs.Books.{Book, next_aim}
use Rattle.traces.specs.Lawful.{World}
use Rattle.traces.specs.Owning.{is_with, publishes, Holds}

-- the keys that these acts reclaimed are keys of the shape
abbrev pub AreKeyed : Shape → List Act → Type 0
AreKeyed z [] = Unit {0}
AreKeyed z (acts.Reclaim lane key ∷ more) = (is_key z key ≡ true) × AreKeyed z more
AreKeyed z (act ∷ more) = AreKeyed z more

-- a PUSH that expects an empty stack finds it so
abbrev pub IsFound : Kind → ℕ → Type 0
IsFound (kinds.Push expected link) before = expected ≡ 0 → before ≡ 0
IsFound kind before = Unit {0}

-- so do these steps
abbrev pub AreFound : List Step → Type 0
AreFound [] = Unit {0}
AreFound (step ∷ more) = IsFound step.kind step.before × AreFound more

-- what holds of the steps and acts of the call under way in the pool
pub record IsSound (z : Shape) (pool : Pool) (lane : ℕ) (b : Book) : Type 0 where
  pub keyed : AreKeyed z b.acts
  pub found : AreFound b.steps
  pub apart : (place : ℕ) → 0 < times place (publishes b.acts) → is_with lane (pool place).phase ≡ false

-- what holds before each step and each reply, and what the calls under way tell beside it
pub record IsKept (z : Shape) (w : World) : Type 0 where
  pub holds : Holds z w
  pub sound : (lane : ℕ) → lane < z.lanes → IsSound z (pool_after z w.history) lane (w.books lane)

-- the lane's next command has made no step yet, or the next is a step
abbrev pub IsResting : Shape → ℕ → Book → Type 0
IsResting z lane b = (b.steps ≡ []) ⊎ (is_some (next_aim z lane b) ≡ true)

-- each lane stands at a step or between two commands
abbrev pub AreResting : Shape → World → Type 0
AreResting z w = (lane : ℕ) → lane < z.lanes → IsResting z lane (w.books lane)
