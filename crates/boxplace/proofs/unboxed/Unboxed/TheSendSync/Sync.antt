-- A `&` to it gives what it owns.
use denote.RattleType.{RattleType}
use denote.Memory.{part_of, raw_all}
use denote.Param.Send.{IsSend, Frees, cell_keyless}
use denote.Param.Send.{IsSync}
use Rattle.std.specs.declared.alloc.Allocator.{Ghosts}
use Rattle.boxplace.proofs.unboxed.Unboxed.TheSendSync.Send.{send}
use Rattle.boxplace.specs.contracts.unboxed.Unboxed.{the_row}

pub sync : (T A : RattleType) (g : Ghosts A.Denot) → IsSend T → IsSend A → Frees g g.dealloc_token → IsSync (the_row T A g)
unfolding part_of
sync T A g s h f = record { shared = λ d b o κ q vs. (cell_keyless q (raw_all (the_row T A g).mir) vs b o, (send T A g s h f).owned d vs) }
