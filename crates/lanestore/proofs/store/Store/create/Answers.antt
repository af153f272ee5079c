-- The lane that was taken keeps as many fillings as it can.
use Rattle.std.proofs.Common.{◌≤◌, refl, length, arith}
use Rattle.lanestore.specs.Visits.{kept_of, keeper_of}
use Rattle.lanestore.proofs.store.Store.create.Goals as goal

pub returns-then-not-can_create-clause-err : goal.returns-then-not-can_create-clause-err
returns-then-not-can_create-clause-err g c = let most : 64 ≤ length (kept_of c.in-Ok.visit) = grind arith in record {
  before = keeper_of c.in-Ok.visit;
  after = keeper_of c.in-Ok.visit;
  owns = c.in-Ok.ensures.lane;
  heard = c.in-Ok.ensures.heard;
  calls = (refl, (refl, most));
  issued = c.leave.ensures.note;
  tells = c.leave.ensures.seen;
}
