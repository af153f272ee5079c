-- The lane shows what it showed, and made those that are left.
use Rattle.std.proofs.Common.{◌≡◌, length}
use Rattle.lanestore.specs.Fillings.{AreMade}
use Rattle.lanestore.proofs.keeper.leave_all.Given as goal

abbrev pub invariant-loop-kept : goal.invariant-loop-kept
invariant-loop-kept g l = record {
  same : l.lane ≡ l.fn.lane;
  made : AreMade l.fn.lane l.list.items;
}

abbrev pub decreases-loop-kept : goal.decreases-loop-kept
decreases-loop-kept g l = length l.list.items
