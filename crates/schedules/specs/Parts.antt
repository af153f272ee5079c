-- The parts of a text.
use Rattle.std.specs.Prelude.{ℕ, ◌==◌, List, [], ◌∷◌, if◌then◌else◌}

-- a byte in front of the first part
abbrev pub onto : ℕ → List (List ℕ) → List (List ℕ)
onto byte [] = []
onto byte (part ∷ parts) = (byte ∷ part) ∷ parts

-- the parts of a text between such bytes
abbrev pub parts_of : ℕ → List ℕ → List (List ℕ)
parts_of separator [] = [] ∷ []
parts_of separator (byte ∷ more) = if byte == separator then [] ∷ parts_of separator more else onto byte (parts_of separator more)
