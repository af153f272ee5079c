use Rattle.std.proofs.Common.{◌≡◌, ℕ, true, List, Some, refl, sym, ap, ◌∙◌, subst, arith}
use Rattle.keybits.specs.declared.shape.Shape.{Shape}
use Rattle.keybits.specs.Keys.{place_of}
use Rattle.poolsteps.specs.declared.view.LaneRecord.{LaneRecord}
use Rattle.poolsteps.specs.declared.view.Status.TheVariants.{Untouched, Emptied}
use Rattle.poolsteps.specs.Spot.{Spot as CellSpot}
use Rattle.poolsteps.specs.Layout.{spots_at}
use Rattle.poolsteps.specs.Views.{head_record, the_lane, status_of}
use Rattle.seatcalls.specs.Called.{StandsAt}
use Rattle.seatcalls.proofs.parts.Moves.{carries-more, carries-sees}
use Rattle.seatcalls.proofs.parts.Standing.{spot-own, publish-place}
use Rattle.shardpool.specs.Stores.{Keeps}
use Rattle.shardpool.proofs.calls.Ends.{keeps-act}
use Rattle.shardpool.proofs.parts.AtOnce.{clears-most}
use Rattle.shardpool.proofs.parts.Filling.{still-may}
use Rattle.shardpool.proofs.parts.Discarding.{is-key, carries-at, published-at, published-behind, keeper-behind, spot-here}
use Rattle.shardpool.proofs.discard.discard_and_keep.Goals as goal

pub spread_cell-requires : goal.spread_cell-requires
spread_cell-requires g c =
    let call = c.requires.call in
    let z : Shape = c.args.grid.now.shape in
    let at = c.place_of.ensures.place in
    let low = call.keeps.keeper.below in record {
      may = record {
        hand = call.keeps.hand;
        spot = spot-own (spot-here c.args.key at call.keeps.inside call.keeps.start);
        below = omega (arith, low);
        place = publish-place z c.args.hand.now.me.0 c.args.key c.place_of.result at call.publish;
      };
      bare = call.keeps.bare;
      slots = λ number below. subst (λ (p : ℕ). status_of (the_lane c.args.hand.now.me.0) p number ≡ Emptied) (sym at) (call.emptied number below);
      at = call.at ∙ ap (spots_at c.args.grid.now.objects.ptr z) (sym at);
    }

pub try_withdraw-requires : goal.try_withdraw-requires
try_withdraw-requires g c =
    let call = c.requires.call in
    let at = c.place_of.ensures.place in
    let filled = c.spread_cell.ensures in
    let carries = carries-at at filled.moves.carries in
    let is = c.at_spot.ensures in record {
      act = keeps-act {content = g.T.Clear.content} {room = g.T.Clear.room}
          (record {
            hand = (filled.moves.hand.0.0 ∙ call.keeps.hand.0, filled.moves.hand.1);
            bare = carries.held ∙ call.keeps.bare;
            inside = call.keeps.inside;
            start = call.keeps.start;
            keeper = keeper-behind carries.elsewhere.lane carries.elsewhere.pushed call.keeps.keeper;
          })
          c.at_spot.result is.spot at refl is.lane is.tops;
      may = still-may carries c.shares_law.ensures.fills c.args.key call.publish;
      slots = λ number below. subst (λ (p : ℕ). status_of (the_lane c.spread_cell.new.hand.me.0) p number ≡ Untouched) at (filled.slots number below);
    }

-- ---- an ENTER is counted there: the lane publishes the key, and clears it

pub publish-requires : goal.publish-requires
publish-requires g c =
    let call = c.requires.call in
    let at = c.place_of.ensures.place in
    let filled = c.spread_cell.ensures in
    let sees = c.in_default.ensures.looks refl in
    let all = carries-more (carries-at at filled.moves.carries) (carries-sees (place_of c.args.key) sees) in record {
      hand = (c.in_default.ensures.hand.0 ∙ (filled.moves.hand.0.0 ∙ call.keeps.hand.0), all.goes.lanes);
      spot = spot-here c.args.key at call.keeps.inside call.keeps.start;
      may = still-may all c.shares_law.ensures.fills c.args.key call.publish;
      shares = λ number below touched. absurd (touched
          (ap (λ (lanes : List LaneRecord). status_of (head_record lanes) (place_of c.args.key) number) sees.goes.lanes
          ∙ subst (λ (p : ℕ). status_of (the_lane c.spread_cell.new.hand.me.0) p number ≡ Untouched) at (filled.slots number below)));
    }

pub clear_and_keep-requires : goal.clear_and_keep-requires
clear_and_keep-requires g c =
    let call = c.requires.call in
    let filled = c.spread_cell.ensures in
    let made = published-behind c.place_of.ensures.place filled.moves.carries filled.cell.0 filled.cell.1 (c.in_default.ensures.looks refl) c.publish.ensures.publishes in record {
      call = record {
        keeps = record {
          hand = (c.publish.ensures.hand.0 ∙ (c.in_default.ensures.hand.0 ∙ (filled.moves.hand.0.0 ∙ call.keeps.hand.0)), made.called.did.acted.one);
          bare = made.called.did.held ∙ call.keeps.bare;
          inside = call.keeps.inside;
          start = call.keeps.start;
          keeper = keeper-behind made.called.did.acted.lane made.act.1 call.keeps.keeper;
        };
        valid = is-key call.publish;
        idle = made.called.idle;
        may = call.clear c.publish.new.hand.me made;
      };
    }

pub returns-in_default-clause-discards : goal.returns-in_default-clause-discards
returns-in_default-clause-discards g c =
    let filled = c.spread_cell.ensures in record {
      published = c.publish.new.hand.me;
      publishes = published-behind c.place_of.ensures.place filled.moves.carries filled.cell.0 filled.cell.1 (c.in_default.ensures.looks refl) c.publish.ensures.publishes;
      marked = c.clear_and_keep.result;
      clears = c.clear_and_keep.ensures.clears;
    }

pub returns-in_default-clause-hand : goal.returns-in_default-clause-hand
returns-in_default-clause-hand g c =
    let first = c.spread_cell.ensures.moves.hand.0 in
    let second = c.in_default.ensures.hand in
    let third = c.publish.ensures.hand in
    let last = c.clear_and_keep.ensures.hand in (last.0 ∙ (third.0 ∙ (second.0 ∙ first.0)), last.1 ∙ (third.1 ∙ (second.1 ∙ first.1)))

-- ---- both were one operation

pub keep_reclaimed-requires-clause-at : goal.keep_reclaimed-requires-clause-at
keep_reclaimed-requires-clause-at g c =
    let keeper = c.requires.call.keeps.keeper in
    let at = c.place_of.ensures.place in
    subst (λ (cell : CellSpot). StandsAt cell (Some c.in-Some.reclaimed)) (λ i. spots_at (sym keeper.directory_is i) (sym keeper.shape_is i) (sym at i)) c.in-Some.ensures.withdraws.2.at

pub keep_reclaimed-requires-clause-away : goal.keep_reclaimed-requires-clause-away
keep_reclaimed-requires-clause-away g c whole is =
    let call = c.requires.call in
    let filled = c.spread_cell.ensures in
    let at = c.place_of.ensures.place in
    let told = c.in-Some.ensures.withdraws in
    let made = published-at at filled.moves.carries filled.cell.0 filled.cell.1 told.1 in
    rw at (call.clear told.0 made 34 c.try_withdraw.new.hand.me true (Some c.in-Some.reclaimed) (rw c.at_spot.ensures.lane at told.2) whole is)

pub returns-clause-discards : goal.returns-clause-discards
returns-clause-discards g c =
    let filled = c.spread_cell.ensures in
    let at = c.place_of.ensures.place in
    let told = c.in-Some.ensures.withdraws in record {
      published = told.0;
      publishes = published-at at filled.moves.carries filled.cell.0 filled.cell.1 told.1;
      marked = true;
      clears = record {
        reclaimed = Some c.in-Some.reclaimed;
        clears = clears-most (rw c.at_spot.ensures.lane at told.2) (omega arith);
        kept = subst (λ (p : ℕ). Keeps p (Some c.in-Some.reclaimed) c.args.state.now c.keep_reclaimed.new.state) at c.keep_reclaimed.ensures;
      };
    }

pub returns-clause-hand : goal.returns-clause-hand
returns-clause-hand g c =
    let first = c.spread_cell.ensures.moves.hand.0 in
    let last = c.in-Some.ensures.hand in (last.0 ∙ first.0, last.1 ∙ first.1)
