-- The order of schedules.
use Rattle.std.specs.Prelude.{◌≡◌, ⊤, ◌⊎◌, ℕ, ◌<◌, List, [], ◌∷◌}

-- the one schedule is the other, or comes before it by the order of lane numbers
abbrev pub IsUpTo : List ℕ → List ℕ → Type 0
IsUpTo [] other = ⊤
IsUpTo (lane ∷ schedule) [] = ⊥
IsUpTo (lane ∷ schedule) (first ∷ other) = (lane < first) ⊎ ((lane ≡ first) × IsUpTo schedule other)
