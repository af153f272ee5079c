-- What a `Run` owns.
use Rattle.std.specs.Prelude.{ℕ, suc, ◌*◌, ◌^◌, ◌<◌, List, [], ◌∷◌}
use Rattle.std.specs.Mem.{type_size}
use base.Fml.{Fml, ftrue, fsep, fex}
use denote.RattleType.{RattleType}
use denote.RawPtr.{Ptr, InBlock}
use Rattle.poolsteps.specs.Portion.{loose_owns}

-- the values of a row from the i-th on
abbrev pub run_owns : (R : RattleType) → Ptr → ℕ → List R.Denot → Fml
run_owns R base i [] = ftrue
run_owns R base i (x ∷ xs) = fsep (loose_owns R base i x) (run_owns R base (suc i) xs)

-- the whole row takes fewer than 2 ^ 63 bytes
abbrev pub run_at : (R : RattleType) → Ptr → ℕ → ℕ → List R.Denot → Fml
run_at R base total i xs = fsep (fex (InBlock base × (total * type_size R < 2 ^ 63)) (λ _. ftrue)) (run_owns R base i xs)
