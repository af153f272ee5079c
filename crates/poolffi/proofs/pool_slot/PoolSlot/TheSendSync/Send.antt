-- What a slot owns says the same to every thread.
use Rattle.std.specs.Prelude.{List}
use mathlib.Core.List.{[], ◌∷◌}
use mir.Raw.{raw}
use base.Shift.{Keyless}
use denote.RawPtr.{Ptr}
use denote.Memory.{lone}
use denote.Param.Send.{IsSend, owning_send, struct_send, sendable}
use denote.Builtin.{RawPtr, u64}
use denote.Struct.Struct.{exits_of}
use denote.Struct.Owning.{shape, fields, to}
use Rattle.std.proofs.Crossing.{frees, crosses}
use Rattle.std_alloc.proofs.SendSync.{quiet, lies}
use Rattle.slotcell.specs.contracts.objects.ByteBuf as buffer
use Rattle.slotcell.specs.contracts.objects.ByteBufClear.TheImpl as clears
use Rattle.shardpool.specs.contracts.notes.Note as note
use Rattle.shardpool.proofs.notes.Note.TheSendSync as note_crossing
use Rattle.shardpool.specs.contracts.pool.Lane as lane
use Rattle.shardpool.proofs.pool.Lane.TheSendSync as lane_crossing
use Rattle.lanestore.proofs.Crossing.{store_send, store_sync}
use Rattle.poolhandle.specs.Slot.{heap_handle, slot_owns}
use Rattle.poolffi.specs.contracts.caller.Caller as caller
use Rattle.poolffi.specs.contracts.pool_slot.PoolSlot.{the_row, the_type}

lane_send : IsSend (lane.the_row buffer.the_row clears.ghosts)
lane_send = search (lane_crossing.the_send, sendable, crosses) depth 20

note_send : IsSend (note.the_row buffer.the_row)
note_send = search (note_crossing.the_send, sendable, crosses) depth 20

caller_send : IsSend caller.the_row
caller_send = search (note_send, lane_send, store_send, store_sync, sendable, crosses) depth 80

keyless : (p : Ptr) (xs : List (caller.the_row).Denot) → Keyless (slot_owns caller.the_row p xs)
keyless p [] = tt
keyless p (x ∷ xs) = (lies caller.the_row caller_send p x, frees.frees heap_handle (raw (lone (caller.the_row).mir)) p)

pub send : IsSend the_row
send = let O = the_type in let pointer : IsSend RawPtr = search sendable in let word : IsSend u64 = search sendable in
    owning_send O (pointer, (word, tt)) (λ d. keyless d.at d.items) (λ k. quiet (to O) (exits_of k (fields O)) ((struct_send (shape O) (pointer, (word, tt))).leaving k))
