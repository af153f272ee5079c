-- Texts of values that are counted.
use Rattle.std.specs.Prelude.{ℕ, ◌+◌, List, [], ◌∷◌, ◌++◌}

-- the texts of some values, the first of which has this number, and each other the next
abbrev pub numbered : {T : Type 0} → (ℕ → T → List ℕ) → ℕ → List T → List ℕ
numbered text number [] = []
numbered text number (x ∷ more) = text number x ++ numbered text (number + 1) more
