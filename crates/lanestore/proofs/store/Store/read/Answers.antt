-- The lane that was taken made the look.
use Rattle.std.proofs.Common.{refl}
use Rattle.lanestore.specs.Visits.{lane_of}
use Rattle.lanestore.proofs.store.Store.read.Goals as goal

pub returns-clause-ok : goal.returns-clause-ok
returns-clause-ok g c = record {
  before = lane_of c.in_ok-visit.visit;
  after = lane_of c.in_ok-visit.visit;
  owns = c.in_ok-visit.ensures.lane.0;
  heard = c.in_ok-visit.ensures.heard;
  calls = (c.in_ok-visit.ensures.lane.1, (refl, c.with-answer.ensures));
  issued = c.leave.ensures.note;
  tells = c.leave.ensures.seen;
}
