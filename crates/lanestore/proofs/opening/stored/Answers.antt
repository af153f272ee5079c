-- The lanes that are given back are the pool's.
use Rattle.lanestore.proofs.Opened.{all-new, all-owned}
use Rattle.lanestore.proofs.opening.stored.Goals as goal

pub close_lanes-requires-clause-owned : goal.close_lanes-requires-clause-owned
close_lanes-requires-clause-owned g c = all-owned c.args.pool c.args.lanes.items (all-new c.args.pool c.args.lanes.items c.requires.lanes)
