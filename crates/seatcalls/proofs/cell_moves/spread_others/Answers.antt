use Rattle.std.proofs.Common.{inl, ◌∙◌, ap, sym}
use Rattle.poolsteps.proofs.OwnShares.{may-touch}
use Rattle.poolsteps.specs.declared.view.Stored.{Stored}
use Rattle.seatcalls.proofs.parts.Moves.{carries-out, carries-more, carried-place, out-moves, moves-here, moves-beside, moves-known, one-after}
use Rattle.seatcalls.proofs.cell_moves.spread_others.Goals as goal

pub out-requires : goal.out-requires
out-requires g c =
    let may = c.requires.may in
    let spread = c.spread_cell.ensures in record {
      hand = (spread.moves.hand.0.0 ∙ may.hand.0, spread.moves.hand.1);
      spot = may.spot;
      lanes = (may.below, may.below);
      may = may-touch c.args.grid.now.shape c.spread_cell.new.hand.me.0 c.args.spot.place c.args.lane spread.moves.place;
      left = spread.slots c.args.lane may.below;
    }

pub returns-clause-moves : goal.returns-clause-moves
returns-clause-moves g c =
    let spread = c.spread_cell.ensures.moves in
    let first = spread.hand.0 in
    let last = c.out.ensures.hand in
    let carries = carries-out c.out.ensures.outs in record {
      hand = ((last.0 ∙ first.0, last.1 ∙ first.1), one-after carries);
      place = carried-place carries c.shares_law.ensures.stays c.args.spot.place spread.place;
      carries = carries-more spread.carries carries;
    }

pub returns-clause-others : goal.returns-clause-others
returns-clause-others g c number below other = moves-beside (out-moves c.out.ensures.outs) number other ∙ c.spread_cell.ensures.slots number below

pub returns-clause-own : goal.returns-clause-own
returns-clause-own g c = moves-here (out-moves c.out.ensures.outs)

pub returns-clause-share : goal.returns-clause-share
returns-clause-share g c =
    let is = c.out.ensures.outs.is_left in
    let known = c.out.ensures.outs.known (inl c.spread_cell.ensures.moves.place) in
    let cell = c.spread_cell.ensures.cell in (
      is.number_is,
      is.of_is,
      ap (λ (s : Stored). s.content) known ∙ sym cell.0,
      ap (λ (s : Stored). s.room) known ∙ sym cell.1,
      is.spot_is,
    )

pub returns-clause-cell : goal.returns-clause-cell
returns-clause-cell g c = inl (sym (moves-known (out-moves c.out.ensures.outs)))
