-- The handles so far are those of the lanes so far.
use Rattle.std.proofs.Common.{◌≡◌, ◌+◌, ◌≤◌, [], length}
use Rattle.std.specs.Vec.{vec_capacity}
use Rattle.std.specs.Vec.Iter.{into_iter_items, into_iter_len}
use Rattle.std.specs.Arc.{arc_value}
use Rattle.poolhandle.proofs.Owned.{AreNext, AreFirst}
use Rattle.poolhandle.proofs.opening.each_handle.Given as goal

abbrev pub invariant-loop-lane : goal.invariant-loop-lane
invariant-loop-lane l = record {
  next : AreNext (arc_value l.shared).pool (length l.handles.items) (into_iter_items l.rest);
  first : AreFirst (arc_value l.shared) l.handles.items;
  all : length l.handles.items + length (into_iter_items l.rest) ≡ (arc_value l.shared).pool.shape.lanes;
  room : length l.handles.items + length (into_iter_items l.rest) ≤ vec_capacity l.handles;
  rest : into_iter_len l.rest ≡ length (into_iter_items l.rest);
  back : l.back.items ≡ [];
  left : length l.handles.items + length (into_iter_items l.rest) ≤ vec_capacity l.back;
}

abbrev pub decreases-loop-lane : goal.decreases-loop-lane
decreases-loop-lane l = length (into_iter_items l.rest)
