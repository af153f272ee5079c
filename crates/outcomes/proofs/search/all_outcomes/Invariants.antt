use Rattle.std.proofs.Common.{◌-◌, ◌≤◌}
use Rattle.outcomes.specs.Search.{Searched}
use Rattle.outcomes.proofs.search.all_outcomes.Given as goal

abbrev pub invariant-loop-layer : goal.invariant-loop-layer
invariant-loop-layer l = record {
  few : l.states ≤ l.most;
  searched : Searched l.shape l.scripts l.layer.items l.table.items;
}

abbrev pub decreases-loop-layer : goal.decreases-loop-layer
decreases-loop-layer l = l.most - l.states
