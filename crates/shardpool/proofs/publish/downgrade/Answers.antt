use Rattle.std.proofs.Common.{ℕ, ◌≤◌, ◌∙◌, subst, arith}
use Rattle.keybits.specs.declared.shape.Shape.{Shape}
use Rattle.poolsteps.specs.Told.{MayRenew}
use Rattle.poolsteps.specs.Moved.{stored_of}
use Rattle.seatcalls.specs.Carried.{Carries}
use Rattle.shardpool.proofs.parts.Filling.{still-may, publish-called, room-published}
use Rattle.seatcalls.proofs.parts.Standing.{spot-own, publish-place}
use Rattle.shardpool.proofs.publish.downgrade.Goals as goal

pub spread_others-share-requires-clause-may : goal.spread_others-share-requires-clause-may
spread_others-share-requires-clause-may g c =
    let at = c.requires.spot.place_is in record {
      hand = c.requires.hand;
      spot = spot-own c.requires.spot;
      below = (let low = c.requires.lane.1 in omega (arith, low));
      place = publish-place c.args.grid.now.shape c.args.hand.now.me.0 c.args.key c.args.spot.place at c.requires.may;
    }

pub publish_held-requires-clause-may : goal.publish_held-requires-clause-may
publish_held-requires-clause-may g c = still-may c.spread_others-share.ensures.moves.carries c.shares_law.ensures.fills c.args.key c.requires.may

pub publish_held-requires-clause-cell : goal.publish_held-requires-clause-cell
publish_held-requires-clause-cell g c = subst
    (λ (place : ℕ). MayRenew c.args.grid.now.shape c.spread_others-share.new.hand.me.0 place (stored_of g.T.Clear.content g.T.Clear.room c.spread_others-share.result))
    c.requires.spot.place_is c.spread_others-share.ensures.cell

pub returns-clause-called : goal.returns-clause-called
returns-clause-called g c =
    let z : Shape = c.args.grid.now.shape in
    let filled = c.spread_others-share.ensures in
    let few : 4 ≤ 34 = omega arith in
    publish-called
    (subst (λ (place : ℕ). Carries z place 4 c.args.hand.now.me c.spread_others-share.new.hand.me) c.requires.spot.place_is filled.moves.carries) few
    filled.share.2 c.publish_held.ensures.publishes

pub returns-clause-room : goal.returns-clause-room
returns-clause-room g c = room-published c.publish_held.ensures.publishes ∙ c.spread_others-share.ensures.share.3
