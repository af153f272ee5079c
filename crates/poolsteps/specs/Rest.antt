-- What a contract sees of the shares of a cell from one number on.
use Rattle.std.specs.Prelude.{ℕ, refl}
use Rattle.std.specs.Coded.{Coded, code_by, coded×, coded_ℕ}
use Rattle.poolsteps.specs.Spot.{Spot, spot_code}
use Rattle.poolsteps.specs.Share.{Share, share_of}

-- which cell they are of, where it stands, the lowest number among them, how many shares the cell has, and the object that they show
pub record Rest (T : Type 0) : Type 0 where
  pub cell : ℕ
  pub spot : Spot
  pub number : ℕ
  pub of : ℕ
  pub object : T

-- a code for rests, by one for their objects
abbrev pub rest_code : {T : Type 0} → Coded T → Coded (Rest T)
rest_code {T} code = code_by (((ℕ × Spot) × ℕ)
    × (ℕ × T)) (coded× (coded× (coded× coded_ℕ spot_code) coded_ℕ) (coded× coded_ℕ code))
    (λ r. (((r.cell, r.spot), r.number), (r.of, r.object)))
    (λ p. record { cell = p.0.0.0; spot = p.0.0.1; number = p.0.1; of = p.1.0; object = p.1.1 }) (λ _. refl)

-- the share of the lowest number among them
abbrev pub lowest_share : {T : Type 0} → Rest T → Share T
lowest_share rest = share_of rest.cell rest.spot rest.of rest.object rest.number
