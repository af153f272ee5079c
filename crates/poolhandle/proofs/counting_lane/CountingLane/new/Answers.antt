-- A lane without references has none to any key.
use Rattle.poolhandle.proofs.References.{counts-none}
use Rattle.poolhandle.proofs.counting_lane.CountingLane.new.Goals as goal

pub invariant_of-result : goal.invariant_of-result
invariant_of-result g c = counts-none c.args.lane c.places.result c.in-Some.counts.items c.places.ensures c.in-Some.ensures c.requires c.places_law.ensures.held
