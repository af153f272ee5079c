-- What a contract sees of the shares of a cell.
use Rattle.std.specs.Prelude.{ℕ, refl}
use Rattle.std.specs.Coded.{Coded, code_by, coded×, coded_ℕ}
use Rattle.poolsteps.specs.Spot.{Spot, spot_code}

-- which cell the share is of, where it stands, its number, of how many, and the object that it shows
pub record Share (T : Type 0) : Type 0 where
  pub cell : ℕ
  pub spot : Spot
  pub number : ℕ
  pub of : ℕ
  pub object : T

-- a code for shares, by one for their objects
abbrev pub share_code : {T : Type 0} → Coded T → Coded (Share T)
share_code {T} code = code_by (((ℕ × Spot) × ℕ)
    × (ℕ × T)) (coded× (coded× (coded× coded_ℕ spot_code) coded_ℕ) (coded× coded_ℕ code))
    (λ s. (((s.cell, s.spot), s.number), (s.of, s.object)))
    (λ p. record { cell = p.0.0.0; spot = p.0.0.1; number = p.0.1; of = p.1.0; object = p.1.1 }) (λ _. refl)

module _ {T : Type 0} where
  -- share i of the n shares of a cell that holds x
  abbrev pub share_of : ℕ → Spot → ℕ → T → ℕ → Share T
  share_of cell spot n x i = record { cell = cell; spot = spot; number = i; of = n; object = x }
