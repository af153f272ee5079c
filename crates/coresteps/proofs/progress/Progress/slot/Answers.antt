-- A register's slot stands at its number.
use Rattle.std.proofs.Common.{◌≡◌, ℕ, zero, suc, List, [], ◌∷◌, get_or, refl}
use Rattle.coresteps.specs.declared.progress.KeptRegister.{KeptRegister}
use Rattle.coresteps.specs.Lanes.{empty_slot, slot_at}
use Rattle.coresteps.proofs.progress.Progress.slot.Goals as goal

-- what stands at an index, and nothing past the end
read : (xs : List KeptRegister) (i : ℕ) → get_or xs i empty_slot ≡ slot_at xs i
read [] i = refl
read (x ∷ xs) zero = refl
read (x ∷ xs) (suc i) = read xs i

pub bounds-self-register : goal.bounds-self-register
bounds-self-register c = c.args.register.small

pub returns : goal.returns
returns c = read c.args.self.now.slots c.args.register.number
