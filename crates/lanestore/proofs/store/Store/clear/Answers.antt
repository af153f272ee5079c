-- The lane that was taken made the call.
use Rattle.lanestore.specs.Visits.{lane_of}
use Rattle.lanestore.proofs.store.Store.clear.Goals as goal

pub leave-requires : goal.leave-requires
leave-requires g c = c.clear-cleared.ensures.clears.owns

pub returns-clause-ok : goal.returns-clause-ok
returns-clause-ok g c = record {
  before = lane_of c.in_ok-visit.visit;
  after = lane_of c.clear-cleared.new.self;
  owns = c.in_ok-visit.ensures.lane;
  heard = c.in_ok-visit.ensures.heard;
  calls = c.clear-cleared.ensures.clears;
  issued = c.leave.ensures.note;
  tells = c.leave.ensures.seen;
}
