use Rattle.std.proofs.Common.{inl, inr, refl, ◌∙◌, arith}
use Rattle.keybits.proofs.ShapeLemmas.{is_place-parts}
use Rattle.keybits.specs.Places.{shard_of}
use Rattle.poolsteps.proofs.OwnShares.{may-touch}
use Rattle.seatcalls.proofs.parts.Moves.{carries-back, carried-place, back-moves, moves-known, one-after}
use Rattle.seatcalls.proofs.parts.Standing.{now-rests}
use Rattle.seatcalls.proofs.cell_moves.rest_cell.Goals as goal

pub lend-requires : goal.lend-requires
lend-requires g c = (omega arith, omega arith)

pub into_share-requires : goal.into_share-requires
into_share-requires g c = let lent = c.lend.ensures in omega (arith, lent.1, lent.2)

pub back_whole-requires : goal.back_whole-requires
back_whole-requires g c =
    let place = c.args.spot.place in record {
      hand = c.requires.may.hand;
      spot = c.requires.may.spot;
      lane = c.requires.may.below;
      may = may-touch c.args.grid.now.shape c.args.hand.now.me.0 place (shard_of place) c.requires.may.place;
      left = c.requires.slots (shard_of place) (let low = (is_place-parts c.args.grid.now.shape place c.requires.may.spot.inside).0 in omega (arith, low));
      share = rw c.into_share.ensures (c.lend.ensures.1, c.lend.ensures.2, c.lend.ensures.0 ∙ c.requires.at);
      cell = inr (c.requires.may.place, λ k below other. inl (c.requires.slots k below));
    }

pub returns-clause-moves : goal.returns-clause-moves
returns-clause-moves g c =
    let carries = carries-back c.back_whole.ensures.backs in record {
      hand = (c.back_whole.ensures.hand, one-after carries);
      place = carried-place carries c.shares_law.ensures.stays c.args.spot.place c.requires.may.place;
      carries = carries;
    }

pub returns-clause-slots : goal.returns-clause-slots
returns-clause-slots g c = now-rests (back-moves c.back_whole.ensures.backs) c.requires.slots

pub returns-clause-cell : goal.returns-clause-cell
returns-clause-cell g c =
    let known = moves-known (back-moves c.back_whole.ensures.backs) in rw (known, c.into_share.ensures, c.lend.ensures.3) (refl, refl, c.requires.at)
