-- What a slot owns says the same to every thread.
use Rattle.std.specs.Prelude.{List}
use mathlib.Core.List.{[], ◌∷◌}
use mir.Raw.{raw}
use base.Shift.{Keyless}
use denote.RawPtr.{Ptr}
use denote.Memory.{lone}
use denote.Param.Send.{IsSend, IsSync, owning_send, struct_send, sendable}
use denote.Builtin.{RawPtr, u64}
use denote.Struct.Struct.{exits_of}
use denote.Struct.Owning.{shape, fields, to}
use Rattle.std.proofs.Crossing.{frees, crosses}
use Rattle.std_alloc.proofs.SendSync.{quiet, lies}
use Rattle.slotcell.specs.contracts.objects.ByteBuf as buffer
use Rattle.slotcell.specs.contracts.objects.ByteBufClear.TheImpl as clears
use Rattle.shardpool.specs.contracts.pool.Lane as lane
use Rattle.shardpool.specs.contracts.pool.Pool as pool
use Rattle.shardpool.proofs.pool.Lane.TheSendSync as lane_crossing
use Rattle.shardpool.proofs.pool.Pool.TheSendSync as pool_crossing
use Rattle.poolsteps.proofs.cells.Base.TheSendSync as base_crossing
use Rattle.poolsteps.proofs.cells.Whole.TheSendSync as whole_crossing
use Rattle.poolhandle.specs.contracts.counting_lane.CountingLane as counting
use Rattle.poolhandle.specs.contracts.kept.Kept as kept
use Rattle.poolhandle.specs.contracts.fillings.Fillings as fillings
use Rattle.poolhandle.specs.contracts.shared.Given as given
use Rattle.poolhandle.specs.contracts.shared.Shared as shared
use Rattle.counted_slot.proofs.Counted.TheSendSync as counted_crossing
use Rattle.boxplace.proofs.unboxed.Unboxed.TheSendSync as unboxed_crossing
use Rattle.poolhandle.specs.Slot.{heap_handle, slot_owns}
use Rattle.poolhandle.specs.contracts.handle.Handle as handle
use Rattle.poolhandle.specs.contracts.slot.Slot.{the_row, the_type}

lane_send : IsSend (lane.the_row buffer.the_row clears.ghosts)
lane_send = search (lane_crossing.the_send, sendable, crosses) depth 20

pool_send : IsSend (pool.the_row buffer.the_row clears.ghosts)
pool_send = search (pool_crossing.the_send, sendable, crosses) depth 20

pool_sync : IsSync (pool.the_row buffer.the_row clears.ghosts)
pool_sync = search (pool_crossing.the_sync, sendable, crosses) depth 20

given_send : IsSend given.the_row
given_send = search (unboxed_crossing.the_send, lane_send, sendable, crosses) depth 20

given_sync : IsSync given.the_row
given_sync = search (unboxed_crossing.the_sync, lane_send, sendable, crosses) depth 20

shared_send : IsSend shared.the_row
shared_send = search (counted_crossing.the_send, pool_send, given_send, given_sync, sendable, crosses) depth 20

shared_sync : IsSync shared.the_row
shared_sync = search (counted_crossing.the_sync, counted_crossing.the_send, pool_sync, given_send, given_sync, sendable, crosses) depth 20

kept_send : IsSend kept.the_row
kept_send = search (base_crossing.the_send, whole_crossing.the_send, sendable, crosses) depth 20

fillings_send : IsSend fillings.the_row
fillings_send = search (kept_send, sendable, crosses) depth 20

counting_send : IsSend (counting.the_row buffer.the_row clears.ghosts)
counting_send = search (lane_send, sendable, crosses) depth 20

handle_send : IsSend handle.the_row
handle_send = search (base_crossing.the_send, whole_crossing.the_send, kept_send, counting_send, lane_send, shared_send, shared_sync, fillings_send, sendable, crosses) depth 80

keyless : (p : Ptr) (xs : List (handle.the_row).Denot) → Keyless (slot_owns handle.the_row p xs)
keyless p [] = tt
keyless p (x ∷ xs) = (lies handle.the_row handle_send p x, frees.frees heap_handle (raw (lone (handle.the_row).mir)) p)

pub send : IsSend the_row
send = let O = the_type in let pointer : IsSend RawPtr = search sendable in let word : IsSend u64 = search sendable in
    owning_send O (pointer, (word, tt)) (λ d. keyless d.at d.items) (λ k. quiet (to O) (exits_of k (fields O)) ((struct_send (shape O) (pointer, (word, tt))).leaving k))
