-- A run says the same to every thread.
use denote.RattleType.{RattleType}
use denote.Builtin.{RawPtr}
use denote.Param.Send.{IsSend, owning_send, struct_send, sendable}
use denote.Struct.Struct.{exits_of}
use denote.Struct.Owning.{shape, fields, to}
use Rattle.std_alloc.proofs.SendSync.{quiet}
use Rattle.poolsteps.proofs.raw.Runs.{run_keyless}
use Rattle.poolsteps.specs.contracts.memory.Run.{the_row, the_type}

pub send : (T : RattleType) → IsSend T → IsSend (the_row T)
send T s = let O = the_type T in let pointer : IsSend RawPtr = search sendable in
    owning_send O (pointer, tt) (λ d. ((λ _. tt), run_keyless T s d.ptr d.first d.items))
    (λ k. quiet (to O) (exits_of k (fields O)) ((struct_send (shape O) (pointer, tt)).leaving k))
