-- What a contract sees of what a lane has of places.
use Rattle.std.specs.Prelude.{ℕ, Bool, List, Option, refl}
use Rattle.std.specs.Coded.{Coded, code_by, coded×, coded_ℕ, coded_bool, coded_list, coded_option}
use denote.RawPtr.{Ptr, coded_ptr}
use Rattle.poolsteps.specs.Spot.{Spot}

-- the directory's address; the number of the first own place; and of each own place the object that waits there, and whether the
-- right to it is here
pub record ObjectsOf (T : Type 0) : Type 0 where
  pub directory : Ptr
  pub first : ℕ
  pub items : List (Option T)
  pub rights : List Bool

-- a code for these, by one for the objects
abbrev pub objects_code : {T : Type 0} → Coded T → Coded (ObjectsOf T)
objects_code {T} code = code_by ((Ptr × ℕ)
    × (List (Option T)
    × List Bool)) (coded× (coded× coded_ptr coded_ℕ) (coded× (coded_list (coded_option code)) (coded_list coded_bool)))
    (λ o. ((o.directory, o.first), (o.items, o.rights)))
    (λ p. record { directory = p.0.0; first = p.0.1; items = p.1.0; rights = p.1.1 }) (λ _. refl)

-- a place of a directory, by the directory's address and the place's number
abbrev pub spot_at : Ptr → ℕ → Spot
spot_at directory index = record { directory = directory; index = index }
