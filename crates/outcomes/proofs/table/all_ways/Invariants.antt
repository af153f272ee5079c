use Rattle.std.proofs.Common.{◌≡◌, ◌+◌, drop}
use Rattle.outcomes.specs.Search.{all_ways}
use Rattle.outcomes.proofs.table.all_ways.Given as goal

abbrev pub invariant-loop-outcome : goal.invariant-loop-outcome
invariant-loop-outcome l = l.ways + all_ways (drop l.outcome-index l.table) ≡ all_ways l.table
