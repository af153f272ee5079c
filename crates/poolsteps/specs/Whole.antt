-- What a contract sees of a whole cell, and how a write to it comes back.
use Rattle.std.specs.Prelude.{refl}
use Rattle.std.specs.Coded.{Coded, code_by, coded×}
use Rattle.poolsteps.specs.Spot.{Spot, spot_code}

pub record Whole (T : Type 0) : Type 0 where
  pub spot : Spot
  pub object : T

abbrev pub whole_code : {T : Type 0} → Coded T → Coded (Whole T)
whole_code {T} code = code_by (Spot
    × T) (coded× spot_code code) (λ w. (w.spot, w.object)) (λ p. record { spot = p.0; object = p.1 }) (λ _. refl)
