use Rattle.shardpool.proofs.at_close.SortedLanes.{one-part}
use Rattle.shardpool.proofs.laws.parts_law.Goals as goal

pub returns : goal.returns
returns c = one-part
