-- The slots so far have the handles so far.
use Rattle.std.proofs.Common.{◌≡◌, ◌+◌, length}
use Rattle.std.specs.Vec.Iter.{into_iter_items, into_iter_len}
use Rattle.poolffi.proofs.Lowering.{Follow, LoweredBelow}
use Rattle.poolffi.proofs.lanes.lower_all.Given as goal

abbrev pub invariant-loop-handle : goal.invariant-loop-handle
invariant-loop-handle l = record {
  next : Follow l.index (into_iter_items l.handle-iterator) l.fn.handles.items;
  done : LoweredBelow l.index l.fn.handles.items l.slots;
  all : l.index + length (into_iter_items l.handle-iterator) ≡ length l.slots;
  rest : into_iter_len l.handle-iterator ≡ length (into_iter_items l.handle-iterator);
}
