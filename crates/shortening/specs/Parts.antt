-- What is left of a schedule when entries are left out.
use Rattle.std.specs.Prelude.{◌≡◌, ⊤, ◌⊎◌, ℕ, ◌+◌, List, [], ◌∷◌, ◌++◌, take, drop}

-- the entries of the part are some of those of the whole, in their order
abbrev pub IsPart : List ℕ → List ℕ → Type 0
IsPart [] whole = ⊤
IsPart (entry ∷ part) [] = ⊥
IsPart (entry ∷ part) (first ∷ whole) = ((entry ≡ first) × IsPart part whole) ⊎ IsPart (entry ∷ part) whole

-- a schedule without so many entries from this index on
abbrev pub without : ℕ → ℕ → List ℕ → List ℕ
without at count schedule = take at schedule ++ drop (at + count) schedule
