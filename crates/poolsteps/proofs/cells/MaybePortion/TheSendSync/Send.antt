-- What may be a portion owns what says the same to every thread.
use Rattle.std.specs.Prelude.{Option, Some, None}
use base.Shift.{Keyless}
use denote.RattleType.{RattleType}
use denote.Param.Send.{IsSend, IsSync, AllSend, owning_send, struct_send, sendable}
use denote.Struct.Struct.{exits_of}
use denote.Struct.Owning.{shape, fields, to}
use Rattle.std.specs.Ptr.{ptr_add}
use Rattle.std_alloc.proofs.SendSync.{quiet}
use Rattle.poolsteps.specs.Held.{Held, held_owns}
use Rattle.poolsteps.proofs.raw.PortionSent.{portion_keyless}
use Rattle.poolsteps.specs.contracts.cells.MaybePortion.{the_row, the_type}

held_keyless : (T : RattleType) → IsSend T → IsSync T → (h : Option (Held T.Denot)) → Keyless (held_owns T h)
held_keyless T s y None = tt
held_keyless T s y (Some h) = (tt, portion_keyless T s y (ptr_add T h.index h.base) h.object h.lifetime h.cell h.parts h.owner)

pub send : (T : RattleType) → IsSend T → IsSync T → IsSend (the_row T)
send T s y = let O = the_type T in let all : AllSend (fields O) = (search sendable, tt) in
    owning_send O all (λ d. held_keyless T s y d.held)
    (λ k. quiet (to O) (exits_of k (fields O)) ((struct_send (shape O) all).leaving k))
