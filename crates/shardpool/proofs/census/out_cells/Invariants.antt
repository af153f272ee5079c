-- The places before this index are gone over, and what the lane has of objects is seen as before.
use Rattle.std.proofs.Common.{◌≡◌}
use Rattle.core.specs.Mem.Slots.{slots_items}
use Rattle.poolsteps.specs.Layout.{words_in}
use Rattle.shardpool.proofs.at_close.DroppedCells.{DrainsTo}
use Rattle.shardpool.proofs.census.out_cells.Given as goal

abbrev pub invariant-loop-index : goal.invariant-loop-index
invariant-loop-index g l = record {
  drains : DrainsTo l.shape l.shard (words_in l.shape (slots_items l.words)).life l.index l.fn.slots l.slots;
  objects : l.objects ≡ l.initial.objects;
}
