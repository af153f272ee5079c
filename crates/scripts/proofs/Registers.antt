-- The register of a number.
use Rattle.std.proofs.Common.{◌≡◌, ℕ, ◌<◌, Some}
use Rattle.std.proofs.Math.Bridge.{le_prop}
use Rattle.std.proofs.Math.Decide.{dec_lt}
use Rattle.std.proofs.Math.Logic.{dif_pos}
use Rattle.scripts.specs.ScriptFiles.{register_at}

pub register_at-small : (n : ℕ) (small : n < 16) → register_at n ≡ Some (record { number = n; small = small })
register_at-small n small = dif_pos (dec_lt n 16) le_prop small _ _
