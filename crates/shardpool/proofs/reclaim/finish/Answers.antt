use Rattle.std.proofs.Common.{ℕ, refl, ap, sym, ◌∙◌}
use Rattle.steplaws.specs.StepLaws.{owed_after}
use Rattle.poolsteps.specs.declared.grid.Spot.{Spot}
use Rattle.shardpool.proofs.calls.Ends.{keeps-act}
use Rattle.seatcalls.proofs.parts.Standing.{at-own}
use Rattle.shardpool.proofs.reclaim.finish.Goals as goal

pub finish_leave-reclaimed-requires : goal.finish_leave-reclaimed-requires
finish_leave-reclaimed-requires g c =
    let call = c.requires.call in
    let is = c.at_spot.ensures in
    let here = ap (λ (x : Spot). x.place) is.spot ∙ c.place_of.ensures.place in
    let act = keeps-act call.keeps c.at_spot.result is.spot c.place_of.ensures.place refl is.lane is.tops in
    record {
      act = record { hand = act.hand; bare = act.bare; at = at-own act.at };
      seen = call.seen;
      owes = call.owes ∙ ap (λ (p : ℕ). owed_after p c.args.found) (sym here);
    }

pub keep_reclaimed-requires-clause-at : goal.keep_reclaimed-requires-clause-at
keep_reclaimed-requires-clause-at g c =
    let keeper = c.requires.call.keeps.keeper in rw (keeper.directory_is, keeper.shape_is) (rw c.at_spot.ensures.spot at c.finish_leave-reclaimed.ensures.at)

pub keep_reclaimed-requires-clause-away : goal.keep_reclaimed-requires-clause-away
keep_reclaimed-requires-clause-away g c whole same =
    let is = c.at_spot.ensures in
    let here = c.place_of.ensures.place in
    let told = c.finish_leave-reclaimed.ensures in
    rw here (c.requires.call.may c.finish_leave-reclaimed.new.hand.me c.finish_leave-reclaimed.result (rw (is.spot, here) at told.ends) (rw (is.spot, here) at told.acts) (rw (is.spot, is.lane, here) at told.reclaimed) whole same)

pub returns-clause-finishes : goal.returns-clause-finishes
returns-clause-finishes g c =
    let is = c.at_spot.ensures in
    let here = c.place_of.ensures.place in
    let told = c.finish_leave-reclaimed.ensures in record {
      reclaimed = c.finish_leave-reclaimed.result;
      ends = rw (is.spot, here) at told.ends;
      acts = rw (is.spot, here) at told.acts;
      told = rw (is.spot, is.lane, here) at told.reclaimed;
      kept = rw here at c.keep_reclaimed.ensures;
    }

pub returns-clause-hands : goal.returns-clause-hands
returns-clause-hands g c = c.finish_leave-reclaimed.ensures.hands
