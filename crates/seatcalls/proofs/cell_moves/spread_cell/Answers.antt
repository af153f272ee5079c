use Rattle.std.proofs.Common.{refl, ◌∙◌, arith}
use Rattle.seatcalls.proofs.parts.Moves.{carries-all, carried-place}
use Rattle.seatcalls.proofs.cell_moves.spread_cell.Goals as goal

pub lend-requires : goal.lend-requires
lend-requires g c = let lanes = c.args.grid.now.checked.lanes in (omega (arith, lanes), omega (arith, lanes))

pub back_all-requires : goal.back_all-requires
back_all-requires g c = record {
  hand = (c.requires.may.hand.0, c.requires.may.hand.1, c.requires.bare);
  spot = c.requires.may.spot;
  lane = c.requires.may.below;
  place = c.requires.may.place;
  left = c.requires.slots;
  rest = (c.lend.ensures.1, c.lend.ensures.2, c.lend.ensures.0 ∙ c.requires.at);
}

pub returns-clause-moves : goal.returns-clause-moves
returns-clause-moves g c =
    let backs = c.back_all.ensures.backs in
    let carries = carries-all backs.goes c.requires.bare backs.held in record {
      hand = (c.back_all.ensures.hand, backs.goes.goes.lanes);
      place = carried-place carries c.shares_law.ensures.stays c.args.spot.place c.requires.may.place;
      carries = carries;
    }

pub returns-clause-slots : goal.returns-clause-slots
returns-clause-slots g c = c.back_all.ensures.backs.goes.leaves.here

pub returns-clause-cell : goal.returns-clause-cell
returns-clause-cell g c = rw (c.back_all.ensures.backs.goes.leaves.known, c.lend.ensures.3) (refl, refl, c.requires.at)
