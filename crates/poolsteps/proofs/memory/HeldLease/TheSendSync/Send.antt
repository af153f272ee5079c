-- The right says the same to every thread.
use denote.RattleType.{RattleType}
use denote.Param.Send.{IsSend, Frees}
use Rattle.core.specs.declared.alloc.Allocator.{Ghosts}
use Rattle.poolsteps.specs.contracts.memory.HeldLease.{the_row}
use Rattle.poolsteps.proofs.raw.HeldLeases.{held_lease_send}

pub send : (T A : RattleType) (g : Ghosts A.Denot) → IsSend A → Frees g g.dealloc_token → IsSend (the_row T A g)
send T A g s f = held_lease_send T A g f
