-- The closure was called on the object that the lane lent.
use Rattle.std.proofs.Common.{refl}
use Rattle.lanestore.proofs.visit.Visit.with.Goals as goal

pub returns : goal.returns
returns g c = let read = c.in_ok-object.ensures.some in (c.in_ok-object.object.now, read.0, read.1, (c.in_ok-object.object, c.look.ensures, refl))
