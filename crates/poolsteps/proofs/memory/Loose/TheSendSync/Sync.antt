-- So does a `&` to one.
use denote.RattleType.{RattleType}
use Rattle.std.specs.Ptr.{ptr_add}
use denote.Param.Send.{IsSync, struct_sync, sendable}
use denote.Struct.Owning.{shape, to}
use Rattle.std_alloc.proofs.SendSync.{seen}
use Rattle.poolsteps.specs.contracts.memory.Loose.{the_row, the_type}

pub sync : (T : RattleType) → IsSync T → IsSync (the_row T)
sync T y = let O = the_type T in record {
  shared = λ d b o κ. ((struct_sync (shape O) (search sendable, tt)).shared (to O d) b o κ, (tt, seen T y (ptr_add T d.index d.base) d.object κ));
}
