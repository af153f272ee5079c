-- What is left of the row is of the places below those that are back.
use Rattle.std.proofs.Common.{◌≡◌, ◌+◌, ◌≤◌, length}
use Rattle.poolsteps.specs.Rows.{AreOwn}
use Rattle.poolsteps.proofs.objects.Objects.put_back.Given as goal

abbrev pub invariant-loop-own : goal.invariant-loop-own
invariant-loop-own g l = record {
  next : l.directory.next ≡ l.first + length l.row.items;
  at : l.directory.at ≡ l.initial.directory.at;
  own : AreOwn l.base.ptr l.first l.row.items;
  below : l.first + length l.row.items ≤ l.end;
}

abbrev pub decreases-loop-own : goal.decreases-loop-own
decreases-loop-own g l = length l.row.items
