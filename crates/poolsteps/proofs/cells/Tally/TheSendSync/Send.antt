-- A tally owns nothing.
use denote.Param.Send.{IsSend, AllSend, owning_send, struct_send, sendable}
use denote.Struct.Struct.{exits_of}
use denote.Struct.Owning.{shape, fields, to}
use Rattle.std_alloc.proofs.SendSync.{quiet}
use Rattle.poolsteps.specs.contracts.cells.Tally.{the_row, the_type}

pub send : IsSend the_row
send = let O = the_type in let all : AllSend (fields O) = (search sendable, tt) in
    owning_send O all (λ d. tt) (λ k. quiet (to O) (exits_of k (fields O)) ((struct_send (shape O) all).leaving k))
