use Rattle.std.proofs.Common.{arith, ◌∙◌}
use Rattle.keybits.proofs.ShapeLemmas.{is_place-parts}
use Rattle.keybits.specs.Places.{shard_of}
use Rattle.poolsteps.proofs.OwnShares.{may-touch}
use Rattle.seatcalls.proofs.parts.Moves.{carries-out, carried-place, out-moves, one-after}
use Rattle.seatcalls.proofs.parts.Standing.{rests-own, rests-no-more}
use Rattle.seatcalls.proofs.cell_moves.take_resting.Goals as goal

pub out_whole-requires : goal.out_whole-requires
out_whole-requires g c =
    let place = c.args.spot.place in record {
      hand = c.requires.may.hand;
      spot = c.requires.may.spot;
      lane = c.requires.may.below;
      may = may-touch c.args.grid.now.shape c.args.hand.now.me.0 place (shard_of place) c.requires.may.place;
      left = c.requires.slots (shard_of place) (let low = (is_place-parts c.args.grid.now.shape place c.requires.may.spot.inside).0 in omega (arith, low)) ∙ rests-own place;
    }

pub returns-clause-moves : goal.returns-clause-moves
returns-clause-moves g c =
    let carries = carries-out c.out_whole.ensures.outs in record {
      hand = (c.out_whole.ensures.hand, one-after carries);
      place = carried-place carries c.shares_law.ensures.stays c.args.spot.place c.requires.may.place;
      carries = carries;
    }

pub returns-clause-slots : goal.returns-clause-slots
returns-clause-slots g c = rests-no-more (out-moves c.out_whole.ensures.outs) c.requires.slots
