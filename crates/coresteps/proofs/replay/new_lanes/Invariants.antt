-- The lanes so far are those of the scripts so far.
use Rattle.coresteps.proofs.TableLemmas.{AreNewLanes}
use Rattle.coresteps.proofs.replay.new_lanes.Given as goal

abbrev pub invariant-loop-script : goal.invariant-loop-script
invariant-loop-script l = AreNewLanes l.shape l.yielded l.lanes.items
