-- The lane that is given back has the number of the seat's.
use Rattle.std.proofs.Common.{◌∙◌, ap}
use Rattle.shardpool.specs.Tokens.{LaneOf}
use Rattle.guards.proofs.posts.unseat_one.Goals as goal

pub returns-clause-others : goal.returns-clause-others
returns-clause-others g c other differs = c.give.ensures.rest.others other (λ same. differs (same ∙ ap (λ (lane : LaneOf). lane.number) c.into_lane.ensures.lane))
