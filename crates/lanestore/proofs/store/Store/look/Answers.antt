-- The lane that was taken made the calls, or has as many references as it can.
use Rattle.std.proofs.Common.{◌≤◌, refl, arith}
use Rattle.steplaws.specs.Facts.{most_references}
use Rattle.shardpool.specs.Lanes.{refs}
use Rattle.lanestore.specs.Visits.{lane_of, keeper_of}
use Rattle.lanestore.proofs.store.Store.look.Goals as goal

pub returns-then-not-has_room-clause-err : goal.returns-then-not-has_room-clause-err
returns-then-not-has_room-clause-err g c = let most : most_references ≤ refs (lane_of c.in-Ok.visit) = grind arith in record {
  before = keeper_of c.in-Ok.visit;
  after = keeper_of c.in-Ok.visit;
  owns = c.in-Ok.ensures.lane;
  heard = c.in-Ok.ensures.heard;
  calls = (refl, (refl, most));
  issued = c.leave.ensures.note;
  tells = c.leave.ensures.seen;
}
