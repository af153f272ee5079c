-- The lanes so far are the pool's, and the handles left have its share.
use Rattle.std.proofs.Common.{◌≡◌, ◌+◌, length, All, Box, Global}
use Rattle.std.specs.Vec.{vec_capacity}
use Rattle.std.specs.Vec.Iter.{into_iter_items}
use Rattle.std.specs.Arc.{arc_value}
use Rattle.shardpool.specs.Tokens.{LaneOf}
use Rattle.shardpool.specs.Lanes.{Owns}
use Rattle.poolhandle.specs.declared.handle.Handle.{Handle}
use Rattle.poolhandle.proofs.opening.lanes_of.Given as goal

abbrev pub invariant-loop-handle : goal.invariant-loop-handle
invariant-loop-handle l = record {
  left : All (λ (handle : Box Handle Global). arc_value handle.value.shared ≡ arc_value l.fn.shared) (into_iter_items l.handle-iterator);
  lanes : All (λ (lane : LaneOf). Owns (arc_value l.fn.shared).pool lane) l.lanes.items;
  all : length l.lanes.items + length (into_iter_items l.handle-iterator) ≡ length l.fn.handles.items;
  room : vec_capacity l.lanes ≡ vec_capacity l.fn.row;
}
