-- What a store of byte buffers owns says the same to every thread.
use denote.Param.Send.{IsSend, IsSync, sendable}
use Rattle.std.proofs.Crossing.{crosses}
use Rattle.slotcell.specs.contracts.objects.ByteBuf as buffer
use Rattle.slotcell.specs.contracts.objects.ByteBufClear.TheImpl as clears
use Rattle.shardpool.specs.contracts.pool.Pool as pool
use Rattle.shardpool.proofs.pool.Pool.TheSendSync as pool_crossing
use Rattle.poolsteps.proofs.cells.Base.TheSendSync as base_crossing
use Rattle.poolsteps.proofs.cells.Whole.TheSendSync as whole_crossing
use Rattle.boxplace.proofs.place.Place.TheSendSync as place_crossing
use Rattle.poolhandle.specs.contracts.counting_lane.CountingLane as lane
use Rattle.poolhandle.proofs.counting_lane.CountingLane.TheSendSync as lane_crossing
use Rattle.lanestore.specs.contracts.kept.Kept as kept
use Rattle.lanestore.specs.contracts.kept.Fillings as fillings
use Rattle.lanestore.specs.contracts.keeper.Keeper as keeper
use Rattle.lanestore.specs.contracts.store.Store as store

pool_send : IsSend (pool.the_row buffer.the_row clears.ghosts)
pool_send = search (pool_crossing.the_send, sendable, crosses) depth 20

pool_sync : IsSync (pool.the_row buffer.the_row clears.ghosts)
pool_sync = search (pool_crossing.the_sync, sendable, crosses) depth 20

lane_send : IsSend (lane.the_row buffer.the_row clears.ghosts)
lane_send = search (lane_crossing.the_send, sendable, crosses) depth 20

kept_send : IsSend (kept.the_row buffer.the_row)
kept_send = search (base_crossing.the_send, whole_crossing.the_send, sendable, crosses) depth 20

fillings_send : IsSend (fillings.the_row buffer.the_row clears.ghosts)
fillings_send = search (kept_send, sendable, crosses) depth 20

keeper_send : IsSend (keeper.the_row buffer.the_row clears.ghosts)
keeper_send = search (base_crossing.the_send, whole_crossing.the_send, kept_send, lane_send, fillings_send, sendable, crosses) depth 80

pub store_sync : IsSync (store.the_row buffer.the_row clears.ghosts)
store_sync = search (place_crossing.the_sync, place_crossing.the_send, pool_send, pool_sync, keeper_send, sendable, crosses) depth 80

pub store_send : IsSend (store.the_row buffer.the_row clears.ghosts)
store_send = search (place_crossing.the_send, pool_send, keeper_send, sendable, crosses) depth 80
