-- Positions in the front of a history.
use Rattle.std.proofs.Common.{ℕ, zero, suc, ◌<◌, List, [], ◌∷◌, length, take, arith}
use Rattle.seqpool.specs.declared.act.Act.{Act}
use Rattle.seqpool.specs.Histories.{At}

pub at-take : (history : List Act) (i j : ℕ) (act : Act) → j < i → At history j act → At (take i history) j act
at-take [] i j act below at = absurd (cc at)
at-take (x ∷ xs) zero j act below at = absurd (omega arith)
at-take (x ∷ xs) (suc i) zero act below at = at
at-take (x ∷ xs) (suc i) (suc j) act below at = at-take xs i j act (omega arith) at

pub from-take : (history : List Act) (i j : ℕ) (act : Act) → At (take i history) j act → (j < i) × At history j act
from-take history zero j act at = absurd (cc at)
from-take [] (suc i) j act at = absurd (cc at)
from-take (x ∷ xs) (suc i) zero act at = (omega arith, at)
from-take (x ∷ xs) (suc i) (suc j) act at = let r = from-take xs i j act at in (omega arith, r.1)

-- an act stands within its history
pub at-below : (history : List Act) (i : ℕ) (act : Act) → At history i act → i < length history
at-below [] i act at = absurd (cc at)
at-below (x ∷ xs) zero act at = omega arith
at-below (x ∷ xs) (suc i) act at = let low = at-below xs i act at in omega (arith, low)
