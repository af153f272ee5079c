-- A kept snapshot owns nothing, so it says the same to every thread.
use denote.RattleType.{RattleType}
use denote.Param.Send.{IsSend}
use Rattle.seatcalls.specs.contracts.kept_snapshot.KeptSnapshot.{the_row}

pub send : (T : RattleType) → IsSend (the_row T)
send T = record { owned = λ d vs. ((λ vss. (tt, ((λ uss. (tt, tt)), tt))), tt); leaving = λ k x vs. tt }
