-- The parts so far are those of the hands so far, and the others are left.
use Rattle.std.proofs.Common.{◌≡◌, length}
use Rattle.std.specs.Vec.{vec_capacity}
use Rattle.std.specs.Vec.Iter.{into_iter_items, into_iter_len}
use Rattle.shardpool.specs.Opened.{AreFurtherHands}
use Rattle.shardpool.proofs.calls.Openings.{AreNumbered, IsFirstPart}
use Rattle.shardpool.proofs.opening.parts_of.Given as goal

abbrev pub invariant-loop-number : goal.invariant-loop-number
invariant-loop-number g l = record {
  made : AreNumbered (IsFirstPart l.grid) l.number l.parts.items;
  capacity : vec_capacity l.parts ≡ l.shape.lanes;
  hands : AreFurtherHands l.grid l.number (into_iter_items l.hands);
  rest : into_iter_len l.hands ≡ length (into_iter_items l.hands);
}
