use Rattle.keybits.proofs.ShapeLemmas.{is_place-parts}
use Rattle.std.proofs.Common.{arith}
use Rattle.poolsteps.proofs.grid.Grid.out_whole.Goals as goal

pub out_as-requires : goal.out_as-requires
out_as-requires g c = record {
  aim = (λ bad. cc bad, λ bad. cc bad);
  hand = c.requires.hand;
  spot = c.requires.spot;
  lanes = (c.requires.lane, (let low = (is_place-parts c.args.self.now.shape c.args.spot.place c.requires.spot.inside).0 in rw c.shard_of.ensures (omega (arith, low))));
  may = rw c.shard_of.ensures c.requires.may;
  left = rw c.shard_of.ensures c.requires.left;
}

pub returns-clause-hand : goal.returns-clause-hand
returns-clause-hand g c = c.out_as.ensures.hand

pub returns-clause-outs : goal.returns-clause-outs
returns-clause-outs g c = rw c.shard_of.ensures at c.out_as.ensures.outs
