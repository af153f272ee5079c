use Rattle.std.proofs.Common.{inr, false, ◌∙◌}
use Rattle.shardpool.proofs.parts.Handing.{hands-behind, undone-mine}
use Rattle.seatcalls.proofs.parts.Standing.{has-left}
use Rattle.shardpool.proofs.get.end_miss.Goals as goal

pub leave-left-requires-clause-may : goal.leave-left-requires-clause-may
leave-left-requires-clause-may g c = inr (false, c.requires.may.under)

pub finish_if_owed-requires : goal.finish_if_owed-requires
finish_if_owed-requires g c =
    let left = has-left (inr (false, c.requires.may.under)) c.leave-left.ensures.leaves in
    let may = c.requires.may.left c.leave-left.result c.leave-left.new.hand.me c.leave-left.ensures.leaves in
    record {
      call = record {
        keeps = record {
          hand = (c.leave-left.ensures.hand.0 ∙ c.requires.hand.0, left.acted.one);
          bare = left.held ∙ c.requires.bare;
          inside = c.requires.spot.inside;
          start = c.requires.spot.start;
          keeper = may.1;
        };
        seen = may.0;
        owes = left.owes;
        may = may.2;
      };
    }

pub returns-clause-misses : goal.returns-clause-misses
returns-clause-misses g c = record {
  found = c.leave-left.result;
  left = c.leave-left.new.hand.me;
  leaves = c.leave-left.ensures.leaves;
  finishes = c.finish_if_owed.ensures.finishes;
}

pub returns-clause-hands : goal.returns-clause-hands
returns-clause-hands g c =
    hands-behind g.E.Emptier.takes c.args.hand.now.me.0 c.leave-left.new.hand.me.0 c.finish_if_owed.new.hand.me.0 (undone-mine c.requires.may.under c.leave-left.ensures.leaves)
    c.finish_if_owed.ensures.hands
