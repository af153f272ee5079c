use Rattle.std.proofs.Common.{arith, refl}
use Rattle.keybits.proofs.ShapeLemmas.{is_place-parts}
use Rattle.poolsteps.proofs.grid.Grid.back_whole.Goals as goal

pub back_as-requires : goal.back_as-requires
back_as-requires g c = record {
  hand = c.requires.hand;
  spot = c.requires.spot;
  lanes = (c.requires.lane, (let low = (is_place-parts c.args.self.now.shape c.args.spot.place c.requires.spot.inside).0 in rw c.shard_of.ensures (omega (arith, low))));
  may = rw c.shard_of.ensures c.requires.may;
  left = rw c.shard_of.ensures c.requires.left;
  share = record { cell = refl; number_is = c.requires.share.0; of_is = c.requires.share.1; spot_is = c.requires.share.2; content_is = refl; room_is = refl };
  cell = rw c.shard_of.ensures c.requires.cell;
}

pub returns-clause-hand : goal.returns-clause-hand
returns-clause-hand g c = c.back_as.ensures.hand

pub returns-clause-backs : goal.returns-clause-backs
returns-clause-backs g c = rw c.shard_of.ensures at c.back_as.ensures.backs
