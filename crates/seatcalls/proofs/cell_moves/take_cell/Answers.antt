use Rattle.std.proofs.Common.{ap, ◌∙◌}
use Rattle.seatcalls.proofs.parts.Moves.{carries-all, carried-place}
use Rattle.seatcalls.proofs.cell_moves.take_cell.Goals as goal

pub out_all-requires : goal.out_all-requires
out_all-requires g c = record {
  hand = (c.requires.may.hand.0, c.requires.may.hand.1, c.requires.bare);
  spot = c.requires.may.spot;
  lane = c.requires.may.below;
  place = c.requires.may.place;
  left = c.requires.slots;
}

pub into_whole-requires : goal.into_whole-requires
into_whole-requires g c = c.out_all.ensures.outs.are.number_is

pub returns-clause-moves : goal.returns-clause-moves
returns-clause-moves g c =
    let outs = c.out_all.ensures.outs in
    let carries = carries-all outs.goes c.requires.bare outs.held in record {
      hand = (c.out_all.ensures.hand, outs.goes.goes.lanes);
      place = carried-place carries c.shares_law.ensures.stays c.args.spot.place c.requires.may.place;
      carries = carries;
    }

pub returns-clause-slots : goal.returns-clause-slots
returns-clause-slots g c = c.out_all.ensures.outs.goes.leaves.here

pub returns-clause-cell : goal.returns-clause-cell
returns-clause-cell g c =
    let are = c.out_all.ensures.outs.are in let whole = c.into_whole.ensures in rw whole.1 (ap (λ x. x.content) are.cell_is, ap (λ x. x.room) are.cell_is, whole.0 ∙ are.spot_is)
