-- So does a `&` to one.
use denote.RattleType.{RattleType}
use denote.Param.Send.{IsSend, IsSync, part_keyless}
use Rattle.seatcalls.proofs.kept_hand.KeptHand.TheSendSync.Send.{send}
use Rattle.seatcalls.specs.contracts.kept_hand.KeptHand.{the_row}

pub sync : (T : RattleType) → IsSend T → IsSync T → IsSync (the_row T)
sync T s y = record { shared = λ d b o ν q. part_keyless (the_row T) (send T s y) q d b o }
