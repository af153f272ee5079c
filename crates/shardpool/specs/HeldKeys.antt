-- What proofs see of the row of a place: how many references the lane has, of which generation, and the share under them.
use Rattle.std.specs.Prelude.{ℕ, Option, refl}
use Rattle.std.specs.Coded.{Coded, code_by, coded×, coded_ℕ, coded_option}
use Rattle.poolsteps.specs.Share.{Share, share_code}

pub record HeldKey (T : Type 0) : Type 0 where
  pub generation : ℕ
  pub count : ℕ
  pub share : Option (Share T)

-- a code for rows, by one for objects
abbrev pub held_key_code : {T : Type 0} → Coded T → Coded (HeldKey T)
held_key_code {T} code = code_by ((ℕ × ℕ)
    × Option (Share T)) (coded× (coded× coded_ℕ coded_ℕ) (coded_option (share_code code))) (λ h. ((h.generation, h.count), h.share))
    (λ p. record { generation = p.0.0; count = p.0.1; share = p.1 }) (λ _. refl)
