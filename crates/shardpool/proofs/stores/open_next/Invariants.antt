-- The slots so far are on the list, and the objects for the others are still to come.
use Rattle.std.proofs.Common.{◌≡◌, length}
use Rattle.std.specs.Vec.Iter.{into_iter_items, into_iter_len}
use Rattle.shardpool.proofs.free.Pages.{OpensSlots}
use Rattle.shardpool.proofs.stores.open_next.Given as goal

abbrev pub invariant-loop-object : goal.invariant-loop-object
invariant-loop-object g l = record {
  on : OpensSlots g.T.Clear.content g.T.Clear.room l.fn.state (into_iter_items l.object-iterator) l.state;
  rest : into_iter_len l.object-iterator ≡ length (into_iter_items l.object-iterator);
}
