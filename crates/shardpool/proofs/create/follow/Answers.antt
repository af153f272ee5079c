use Rattle.std.proofs.Common.{arith, ap, sym, ◌∙◌}
use Rattle.seqpool.specs.Pool.{with}
use Rattle.shardpool.proofs.parts.Following.{followed-has, followed-one, followed-with, follows-out}
use Rattle.shardpool.proofs.create.follow.Goals as goal

pub take_resting-requires-clause-may : goal.take_resting-requires-clause-may
take_resting-requires-clause-may g c =
    let followed = c.follow-link.ensures in record {
      hand = (followed.hand.0 ∙ c.requires.hand.0, followed-one followed.follows);
      spot = c.requires.spot;
      below = (let low = c.requires.lane.1 in omega (arith, low));
      place = followed-has followed.follows c.args.spot.place (c.requires.place ∙ ap with c.requires.lane.0);
    }

pub returns-clause-follows : goal.returns-clause-follows
returns-clause-follows g c = follows-out c.follow-link.ensures.follows c.take_resting.ensures.moves.carries c.take_resting.ensures.slots

pub returns-clause-place : goal.returns-clause-place
returns-clause-place g c =
    followed-with c.follow-link.ensures.follows c.args.spot.place (c.requires.place ∙ ap with c.requires.lane.0) c.take_resting.ensures.moves.carries ∙ ap with (sym c.requires.lane.0)
