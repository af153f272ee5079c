-- The lane of the key's shard made the call, or looked and did nothing.
use Rattle.std.proofs.Common.{refl, inr, ap, ◌∙◌}
use Rattle.shardpool.specs.Tokens.{LaneOf}
use Rattle.lanestore.specs.Visits.{keeper_of}
use Rattle.lanestore.proofs.store.Store.write.Goals as goal

pub returns-in-Some-clause-ok : goal.returns-in-Some-clause-ok
returns-in-Some-clause-ok g c = let writes = c.in-Some.ensures.writes in record {
  before = keeper_of c.in_ok-visit.visit;
  after = keeper_of c.write.new.self;
  owns = c.in_ok-visit.ensures.lane.0;
  heard = c.in_ok-visit.ensures.heard;
  calls = (c.in_ok-visit.ensures.lane.1, (c.in-Some.ensures.lane, writes.0, writes.1, writes.2, writes.3, writes.4));
  issued = c.leave.ensures.note;
  tells = c.leave.ensures.seen;
}

pub returns-in-None-clause-err : goal.returns-in-None-clause-err
returns-in-None-clause-err g c = inr record {
  before = keeper_of c.in_ok-visit.visit;
  after = keeper_of c.in_ok-visit.visit;
  owns = c.in_ok-visit.ensures.lane.0;
  heard = c.in_ok-visit.ensures.heard;
  calls = (refl, (refl, c.in_ok-visit.ensures.lane.1, c.in-None.ensures.writes.0));
  issued = c.leave-in-None.ensures.note;
  tells = c.leave-in-None.ensures.seen ∙ ap (λ (lane : LaneOf). lane.book.seen) c.in-None.ensures.lane;
}
