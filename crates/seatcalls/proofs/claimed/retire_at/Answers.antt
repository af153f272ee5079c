use Rattle.seatcalls.proofs.parts.Standing.{stands-in}
use Rattle.seatcalls.proofs.claimed.retire_at.Goals as goal

pub get_mut-object-requires : goal.get_mut-object-requires
get_mut-object-requires g c = stands-in c.requires.may.spot c.requires.whole
