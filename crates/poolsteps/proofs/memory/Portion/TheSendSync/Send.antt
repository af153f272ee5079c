-- What a portion owns says the same to every thread.
use denote.RattleType.{RattleType}
use Rattle.std.specs.Ptr.{ptr_add}
use denote.Param.Send.{IsSend, IsSync, AllSend, owning_send, struct_send, sendable}
use denote.Struct.Struct.{exits_of}
use denote.Struct.Owning.{shape, fields, to}
use Rattle.std_alloc.proofs.SendSync.{quiet}
use Rattle.poolsteps.proofs.raw.PortionSent.{portion_keyless}
use Rattle.poolsteps.specs.contracts.memory.Portion.{the_row, the_type}

pub send : (T : RattleType) → IsSend T → IsSync T → IsSend (the_row T)
send T s y = let O = the_type T in let all : AllSend (fields O) = (search sendable, tt) in
    owning_send O all (λ d. (tt, portion_keyless T s y (ptr_add T d.index d.base) d.object d.lifetime d.cell d.parts d.owner))
    (λ k. quiet (to O) (exits_of k (fields O)) ((struct_send (shape O) all).leaving k))
