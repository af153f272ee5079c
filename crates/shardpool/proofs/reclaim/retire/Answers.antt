-- An empty object rests where the one that was handed over stood.
use Rattle.seatcalls.proofs.parts.Standing.{stands-in}
use Rattle.shardpool.proofs.reclaim.retire.Goals as goal

pub get_mut-object-requires : goal.get_mut-object-requires
get_mut-object-requires g c = stands-in c.requires.may.spot c.requires.whole
