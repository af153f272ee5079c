-- The shares of the rows of the shard's places so far are in their slots.
use Rattle.std.proofs.Common.{◌≡◌, ◌+◌, ◌*◌, List, Option, length}
use Rattle.core.specs.declared.slots.Slots.{Slots}
use Rattle.keybits.specs.Shapes.{shard_places}
use Rattle.poolsteps.specs.Share.{Share}
use Rattle.poolsteps.specs.Layout.{slot_row}
use Rattle.poolsteps.specs.Joins.{IsSlotRow}
use Rattle.shardpool.specs.HeldKeys.{HeldKey}
use Rattle.shardpool.specs.Remains.{GivesTo}
use Rattle.shardpool.proofs.returned_shares.give_shard.Given as goal

abbrev pub invariant-loop-index : goal.invariant-loop-index
invariant-loop-index g l = record {
  wide : length l.rows.items ≡ slot_row l.shape;
  row : IsSlotRow l.shape l.slots;
  given : (all : List (HeldKey g.row.T.Denot)) (first : Slots (Option (Share g.row.T.Denot))) → GivesTo l.shape l.number all (l.shard * shard_places l.shape) l.initial.rows.items first l.initial.slots
      → GivesTo l.shape l.number all (l.shard * shard_places l.shape + l.index) l.rows.items first l.slots;
}
