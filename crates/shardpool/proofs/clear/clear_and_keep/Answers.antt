use Rattle.std.proofs.Common.{◌+◌, refl, ap, ◌∙◌, arith}
use Rattle.poolsteps.specs.declared.view.LaneRecord.{LaneRecord}
use Rattle.shardpool.proofs.parts.AtOnce.{clears-most, clears-behind, looks-still}
use Rattle.shardpool.proofs.parts.Handing.{hands-behind}
use Rattle.shardpool.proofs.calls.Ends.{keeper-still, keeps-act}
use Rattle.shardpool.proofs.clear.clear_and_keep.Goals as goal

pub try_clear-requires : goal.try_clear-requires
try_clear-requires g c =
    let call = c.requires.call in
    let is = c.at_spot.ensures in record {
      call = record {
        act = keeps-act call.keeps c.at_spot.result is.spot c.place_of.ensures.place refl is.lane is.tops;
        idle = call.idle;
      };
      key = call.valid;
    }

-- ---- another lane stepped meanwhile: the lane looked, and is as it was

pub clear_by_steps_and_keep-requires : goal.clear_by_steps_and_keep-requires
clear_by_steps_and_keep-requires g c =
    let call = c.requires.call in
    let still = looks-still (c.in_default.ensures.looks refl) in
    record {
      call = record {
        keeps = record {
          hand = (c.in_default.ensures.hand.0 ∙ call.keeps.hand.0, still.one);
          bare = still.held ∙ call.keeps.bare;
          inside = call.keeps.inside;
          start = call.keeps.start;
          keeper = keeper-still still.lane call.keeps.keeper;
        };
        valid = call.valid;
        idle = ap (λ (r : LaneRecord). r.under) still.lane ∙ call.idle;
        may = λ looks after marked reclaimed clears whole is. call.may (2 + looks) after marked reclaimed (clears-behind (c.in_default.ensures.looks refl) clears) whole is;
      };
    }

pub returns-in_default-clause-clears : goal.returns-in_default-clause-clears
returns-in_default-clause-clears g c =
    let made = c.clear_by_steps_and_keep.ensures.clears in
    record { reclaimed = made.reclaimed; clears = clears-behind (c.in_default.ensures.looks refl) made.clears; kept = made.kept }

-- ---- the clear was one operation

pub keep_reclaimed-requires-clause-away : goal.keep_reclaimed-requires-clause-away
keep_reclaimed-requires-clause-away g c whole is =
    rw c.place_of.ensures.place (c.requires.call.may 35 c.try_clear.new.hand.me c.in-Some.marked c.in-Some.reclaimed (rw c.at_spot.ensures.lane at c.in-Some.ensures.clears) whole is)

pub returns-clause-clears : goal.returns-clause-clears
returns-clause-clears g c = record {
  reclaimed = c.in-Some.reclaimed;
  clears = clears-most (rw c.at_spot.ensures.lane at c.in-Some.ensures.clears) (omega arith);
  kept = rw c.place_of.ensures.place at c.keep_reclaimed.ensures;
}

-- ---- what the emptier took

pub returns-in_default-clause-hands : goal.returns-in_default-clause-hands
returns-in_default-clause-hands g c =
    let still = looks-still (c.in_default.ensures.looks refl) in
    rw (c.in_default.ensures.kept refl) at
    (hands-behind g.E.Emptier.takes c.args.hand.now.me.0 c.try_clear.new.hand.me.0 c.clear_by_steps_and_keep.new.hand.me.0 (ap (λ (r : LaneRecord). r.mine) still.lane)
    c.clear_by_steps_and_keep.ensures.hands)

pub returns-clause-hands : goal.returns-clause-hands
returns-clause-hands g c = c.in-Some.ensures.hands
