-- Both threads have the store.
use denote.Param.Send.{sendable}
use Rattle.std.proofs.Crossing.{crosses}
use Rattle.lanestore.proofs.Crossing.{store_sync}
use Rattle.pooltests.proofs.test_store.what_one_thread_puts_another_finds.Goals as goal

pub join-one-requires-send-F : goal.join-one-requires-send-F
join-one-requires-send-F g c = search (store_sync, sendable, crosses) depth 20
