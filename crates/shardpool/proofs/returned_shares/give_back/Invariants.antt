-- The shares of the rows of the shards so far are in their slots.
use Rattle.std.proofs.Common.{◌*◌}
use Rattle.keybits.specs.Shapes.{shard_places}
use Rattle.shardpool.specs.Remains.{GivesTo}
use Rattle.shardpool.proofs.returned_shares.give_back.Given as goal

abbrev pub invariant-loop-shard : goal.invariant-loop-shard
invariant-loop-shard g l = GivesTo l.shape l.number l.fn.rows.items (l.shard * shard_places l.shape) l.rows.items l.initial.slots l.slots
