-- A `&` to a run gives what the run owns.
use denote.RattleType.{RattleType}
use denote.Memory.{part_of, raw_all}
use denote.Param.Send.{IsSend, IsSync, cell_keyless}
use Rattle.poolsteps.proofs.memory.Run.TheSendSync.Send.{send}
use Rattle.poolsteps.specs.contracts.memory.Run.{the_row}

pub sync : (T : RattleType) → IsSend T → IsSync (the_row T)
unfolding part_of
sync T s = record { shared = λ d b o κ q vs. (cell_keyless q (raw_all (the_row T).mir) vs b o, (send T s).owned d vs) }
