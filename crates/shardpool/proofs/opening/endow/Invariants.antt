-- The lanes so far are those of the parts so far, and the directory's next place is the first of the next shard.
use Rattle.std.proofs.Common.{◌≡◌, ◌≤◌, ◌++◌, length}
use Rattle.std.specs.Vec.{vec_capacity}
use Rattle.std.specs.Vec.Iter.{into_iter_items, into_iter_len}
use Rattle.poolsteps.specs.Layout.{shard_start}
use Rattle.shardpool.specs.Opened.{IsFirstLane}
use Rattle.shardpool.proofs.calls.Openings.{AreNumbered, pool_of}
use Rattle.shardpool.proofs.opening.endow.Given as goal

abbrev pub invariant-loop-part : goal.invariant-loop-part
invariant-loop-part g l = record {
  opened : AreNumbered (IsFirstLane (pool_of l.grid)) (length l.yielded) l.lanes.items;
  capacity : l.grid.shape.lanes ≤ vec_capacity l.lanes;
  parts : l.yielded ++ into_iter_items l.part-iterator ≡ l.fn.parts.items;
  rest : into_iter_len l.part-iterator ≡ length (into_iter_items l.part-iterator);
  at : l.directory.at ≡ l.initial.directory.at;
  count : l.directory.count ≡ l.initial.directory.count;
  next : l.directory.next ≡ shard_start l.grid.shape (length l.yielded);
}
