-- The lane of the key's shard made the call, or looked and did nothing.
use Rattle.std.proofs.Common.{◌≤◌, refl, arith, inl, inr, ap, ◌∙◌}
use Rattle.steplaws.specs.Facts.{most_references}
use Rattle.shardpool.specs.Lanes.{refs}
use Rattle.lanestore.specs.Visits.{KeeperOf, lane_of, keeper_of}
use Rattle.lanestore.proofs.store.Store.downgrade.Goals as goal

pub returns-then-not-has_room-clause-err : goal.returns-then-not-has_room-clause-err
returns-then-not-has_room-clause-err g c = let most : most_references ≤ refs (lane_of c.in_ok-visit.visit) = grind arith in inr record {
  before = keeper_of c.in_ok-visit.visit;
  after = keeper_of c.in_ok-visit.visit;
  owns = c.in_ok-visit.ensures.lane.0;
  heard = c.in_ok-visit.ensures.heard;
  calls = (refl, inl (refl, most));
  issued = c.leave.ensures.note;
  tells = c.leave.ensures.seen;
}

pub returns-in-Some-clause-ok : goal.returns-in-Some-clause-ok
returns-in-Some-clause-ok g c = record {
  before = keeper_of c.in_ok-visit.visit;
  after = keeper_of c.downgrade.new.self;
  owns = c.in_ok-visit.ensures.lane.0;
  heard = c.in_ok-visit.ensures.heard;
  calls = (c.in_ok-visit.ensures.lane.1, c.in-Some.ensures);
  issued = c.leave-in-Some.ensures.note;
  tells = c.leave-in-Some.ensures.seen;
}

pub returns-in-None-clause-err : goal.returns-in-None-clause-err
returns-in-None-clause-err g c = inr record {
  before = keeper_of c.in_ok-visit.visit;
  after = keeper_of c.in_ok-visit.visit;
  owns = c.in_ok-visit.ensures.lane.0;
  heard = c.in_ok-visit.ensures.heard;
  calls = (refl, inr (refl, c.in_ok-visit.ensures.lane.1, c.in-None.ensures.0));
  issued = c.leave-in-None.ensures.note;
  tells = c.leave-in-None.ensures.seen ∙ ap (λ (keeper : KeeperOf g.row.T.Denot). keeper.lane.book.seen) c.in-None.ensures.1;
}
