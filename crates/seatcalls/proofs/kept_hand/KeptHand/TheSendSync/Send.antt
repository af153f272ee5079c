-- A kept hand says the same to every thread.
use denote.RattleType.{RattleType}
use denote.Param.Send.{IsSend, IsSync}
use Rattle.atomic_table.proofs.shared.Seat.TheSendSync as seat
use Rattle.poolsteps.specs.contracts.cells.Slot as slot
use Rattle.poolsteps.specs.contracts.view.View as view
use Rattle.poolsteps.proofs.cells.Slot.TheSendSync as sent
use Rattle.seatcalls.specs.contracts.kept_hand.KeptHand.{the_row}

pub send : (T : RattleType) → IsSend T → IsSync T → IsSend (the_row T)
send T s y = let inner = seat.the_send (slot.the_row T) view.the_row (sent.the_send T s y) in
    record { owned = λ d vs. ((λ vss. (tt, (inner.owned d.hand vss.0, tt))), tt); leaving = λ k x vs. (tt, tt) }
