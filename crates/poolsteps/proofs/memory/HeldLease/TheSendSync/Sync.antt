-- So does a `&` to it.
use denote.RattleType.{RattleType}
use denote.Param.Send.{IsSend, IsSync, Frees, part_keyless}
use Rattle.core.specs.declared.alloc.Allocator.{Ghosts}
use Rattle.poolsteps.specs.contracts.memory.HeldLease.{the_row}
use Rattle.poolsteps.proofs.raw.HeldLeases.{held_lease_send}

pub sync : (T A : RattleType) (g : Ghosts A.Denot) → IsSend A → Frees g g.dealloc_token → IsSync (the_row T A g)
sync T A g s f = record { shared = λ d b o ν q. part_keyless (the_row T A g) (held_lease_send T A g f) q d b o }
