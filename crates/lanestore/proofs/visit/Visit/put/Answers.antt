-- The filling was published with the object that came in exchange.
use Rattle.std.proofs.Common.{◌∙◌}
use Rattle.lanestore.specs.Visits.{lane_of}
use Rattle.lanestore.proofs.visit.Visit.put.Goals as goal

pub returns-clause-puts : goal.returns-clause-puts
returns-clause-puts g c = (
  lane_of c.begin.new.self,
  c.in_ok-filling.filling,
  c.in_ok-filling.ensures.creates,
  rw (← c.swap.ensures.x_after) c.finish.ensures.publishes,
  c.swap.ensures.y_after ∙ c.value_mut.ensures.object,
)
