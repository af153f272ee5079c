-- What a `&` to what may be a portion gives says the same to every thread.
use mathlib.Core.List.{[], ◌∷◌}
use Rattle.std.specs.Prelude.{Option, Some, None}
use base.Shift.{Keyless}
use base.Fml.{Lft}
use denote.RattleType.{RattleType}
use Rattle.std.specs.Ptr.{ptr_add}
use denote.Param.Send.{IsSend, IsSync, struct_sync, sendable}
use denote.Struct.Owning.{shape, to}
use Rattle.std_alloc.proofs.SendSync.{seen}
use Rattle.poolsteps.specs.Held.{Held, held_shares}
use Rattle.poolsteps.specs.contracts.cells.MaybePortion.{the_row, the_type}

held_shares_keyless : (T : RattleType) → IsSync T → (h : Option (Held T.Denot)) (κ : Lft) → Keyless (held_shares T h κ)
held_shares_keyless T y None κ = tt
held_shares_keyless T y (Some h) κ = (tt, (((λ q. tt), seen T y (ptr_add T h.index h.base) h.object (h.lifetime ∷ [])), tt))

pub sync : (T : RattleType) → IsSend T → IsSync T → IsSync (the_row T)
sync T s y = let O = the_type T in record {
  shared = λ d b o κ. ((struct_sync (shape O) (search sendable, tt)).shared (to O d) b o κ, held_shares_keyless T y d.held κ);
}
