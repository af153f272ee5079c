-- So does a `&` to one.
use denote.RattleType.{RattleType}
use denote.Param.Send.{IsSync, part_keyless}
use Rattle.seatcalls.proofs.kept_snapshot.KeptSnapshot.TheSendSync.Send.{send}
use Rattle.seatcalls.specs.contracts.kept_snapshot.KeptSnapshot.{the_row}

pub sync : (T : RattleType) → IsSync (the_row T)
sync T = record { shared = λ d b o ν q. part_keyless (the_row T) (send T) q d b o }
