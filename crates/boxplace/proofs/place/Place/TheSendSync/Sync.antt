-- So does a `&` to one.
use denote.RattleType.{RattleType}
use denote.Param.Send.{IsSend, IsSync}
use Rattle.core.proofs.atomic.Sent.{chain-Keyless}
use Rattle.boxplace.specs.declared.place.Fits.{Ghosts}
use Rattle.boxplace.specs.contracts.place.Place.{the_row}
use Rattle.boxplace.proofs.place.Place.TheSendSync.Send.{rests_keyless}

pub sync : (T G : RattleType) (g : Ghosts T.Denot G.Denot) → IsSend T → IsSync (the_row T G g)
sync T G g s = record { shared = λ d b o κ α. ((λ νs. chain-Keyless νs κ α), λ p. (tt, rests_keyless T s (g.fits d) p)) }
