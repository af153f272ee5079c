use Rattle.std.proofs.Common.{refl}
use Rattle.shardpool.proofs.calls.Ends.{keeps-act}
use Rattle.shardpool.proofs.clear.clear_by_steps_and_keep.Goals as goal

pub clear_by_steps-marked-requires : goal.clear_by_steps-marked-requires
clear_by_steps-marked-requires g c =
    let call = c.requires.call in
    let is = c.at_spot.ensures in record {
      call = record {
        act = keeps-act call.keeps c.at_spot.result is.spot c.place_of.ensures.place refl is.lane is.tops;
        idle = call.idle;
      };
      key = call.valid;
    }

pub keep_reclaimed-requires-clause-away : goal.keep_reclaimed-requires-clause-away
keep_reclaimed-requires-clause-away g c whole same =
    let made = c.clear_by_steps-marked in
    rw c.place_of.ensures.place (c.requires.call.may 34 made.new.hand.me made.result.0 made.result.1 (rw c.at_spot.ensures.lane at made.ensures.clears) whole same)

pub returns-clause-clears : goal.returns-clause-clears
returns-clause-clears g c =
    let made = c.clear_by_steps-marked in
    record { reclaimed = made.result.1; clears = rw c.at_spot.ensures.lane at made.ensures.clears; kept = rw c.place_of.ensures.place at c.keep_reclaimed.ensures }

pub returns-clause-hands : goal.returns-clause-hands
returns-clause-hands g c = c.clear_by_steps-marked.ensures.hands
