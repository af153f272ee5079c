-- What is left of the row is of the places from the first on.
use Rattle.std.proofs.Common.{◌+◌, ◌^◌, ◌<◌, length}
use Rattle.poolsteps.specs.Rows.{AreOwn}
use Rattle.poolsteps.proofs.objects.Objects.let_go.Given as goal

abbrev pub invariant-loop-own : goal.invariant-loop-own
invariant-loop-own g l = record {
  own : AreOwn l.base.ptr l.first l.row.items;
  fits : l.first + length l.row.items < 2 ^ 64;
}

abbrev pub decreases-loop-own : goal.decreases-loop-own
decreases-loop-own g l = length l.row.items
