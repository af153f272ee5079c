use Rattle.std.proofs.Common.{◌≡◌, ℕ, ◌≤◌, sym, ap, ◌∙◌, subst, arith}
use Rattle.keybits.specs.declared.shape.Shape.{Shape}
use Rattle.poolsteps.specs.declared.view.Status.TheVariants.{Untouched, Emptied}
use Rattle.poolsteps.specs.Layout.{spots_at}
use Rattle.poolsteps.specs.Views.{the_lane, status_of, known_of}
use Rattle.seatcalls.specs.Carried.{Carries, ShowsCell}
use Rattle.shardpool.proofs.parts.Filling.{still-may, publish-called, room-published}
use Rattle.seatcalls.proofs.parts.Standing.{spot-own, publish-place, publish-left, publish-known}
use Rattle.shardpool.proofs.publish.publish.Goals as goal

pub spread_cell-requires : goal.spread_cell-requires
spread_cell-requires g c =
    let at = c.requires.spot.place_is in record {
      may = record {
        hand = c.requires.hand;
        spot = spot-own c.requires.spot;
        below = (let low = c.requires.lane.1 in omega (arith, low));
        place = publish-place c.args.grid.now.shape c.args.hand.now.me.0 c.args.key c.args.spot.place at c.requires.may;
      };
      bare = c.requires.bare;
      slots = λ number below. subst (λ (p : ℕ). status_of (the_lane c.args.hand.now.me.0) p number ≡ Emptied) (sym at) (c.requires.slots number below);
      at = c.requires.at ∙ ap (spots_at c.args.grid.now.objects.ptr c.args.grid.now.shape) (sym at);
    }

pub publish-requires : goal.publish-requires
publish-requires g c =
    let filled = c.spread_cell.ensures in
    let moves = filled.moves in record {
      hand = (moves.hand.0.0 ∙ c.requires.hand.0, moves.hand.1);
      spot = c.requires.spot;
      may = still-may moves.carries c.shares_law.ensures.fills c.args.key c.requires.may;
      shares = λ number below touched. absurd (touched (subst (λ (p : ℕ). status_of (the_lane c.spread_cell.new.hand.me.0) p number ≡ Untouched) c.requires.spot.place_is
          (filled.slots number below)));
    }

pub returns-clause-hand : goal.returns-clause-hand
returns-clause-hand g c =
    let first = c.spread_cell.ensures.moves.hand.0 in let last = c.publish.ensures.hand in (last.0 ∙ first.0, last.1 ∙ first.1)

pub returns-clause-slots : goal.returns-clause-slots
returns-clause-slots g c number below = publish-left c.publish.ensures.publishes _ number
    ∙ subst (λ (p : ℕ). status_of (the_lane c.spread_cell.new.hand.me.0) p number ≡ Untouched) c.requires.spot.place_is (c.spread_cell.ensures.slots number below)

pub returns-clause-cell : goal.returns-clause-cell
returns-clause-cell g c =
    let known = publish-known c.publish.ensures.publishes in
    rw known (subst (λ (p : ℕ). ShowsCell g.T.Clear.content g.T.Clear.room (spots_at c.args.grid.now.objects.ptr c.args.grid.now.shape) p (known_of (the_lane c.spread_cell.new.hand.me.0) p) c.args.whole) c.requires.spot.place_is
    c.spread_cell.ensures.cell)

pub returns-clause-called : goal.returns-clause-called
returns-clause-called g c =
    let z : Shape = c.args.grid.now.shape in
    let at = c.requires.spot.place_is in
    let filled = c.spread_cell.ensures in
    let few : 2 ≤ 34 = omega arith in
    publish-called (subst (λ (place : ℕ). Carries z place 2 c.args.hand.now.me c.spread_cell.new.hand.me) at filled.moves.carries) few
    (sym (filled.cell.0 ∙ ap (λ (place : ℕ). (known_of (the_lane c.spread_cell.new.hand.me.0) place).content) at)) c.publish.ensures.publishes

pub returns-clause-room : goal.returns-clause-room
returns-clause-room g c =
    let at = ap (λ (place : ℕ). (known_of (the_lane c.spread_cell.new.hand.me.0) place).room) c.requires.spot.place_is in
    room-published c.publish.ensures.publishes ∙ sym (c.spread_cell.ensures.cell.1 ∙ at)
