-- What it owns says the same to every thread.
use mir.Raw.{raw}
use denote.RattleType.{RattleType}
use denote.Memory.{lone}
use denote.Param.Send.{IsSend, Frees, owning_send, struct_send, sendable}
use denote.Builtin.{RawPtr}
use denote.Struct.Struct.{exits_of}
use denote.Struct.Owning.{shape, fields, to}
use Rattle.std.specs.declared.alloc.Allocator.{Ghosts}
use Rattle.std_alloc.proofs.SendSync.{quiet, lies}
use Rattle.boxplace.specs.contracts.unboxed.Unboxed.{the_row, the_type}

pub send : (T A : RattleType) (g : Ghosts A.Denot) → IsSend T → IsSend A → Frees g g.dealloc_token → IsSend (the_row T A g)
send T A g s h f = let O = the_type T A g in let pointer : IsSend RawPtr = search sendable in
    owning_send O (pointer, (h, tt)) (λ d. (lies T s d.at d.object, f.frees d.alloc (raw (lone T.mir)) d.at))
    (λ k. quiet (to O) (exits_of k (fields O)) ((struct_send (shape O) (pointer, (h, tt))).leaving k))
