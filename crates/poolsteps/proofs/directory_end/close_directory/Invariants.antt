-- The words from `end` on are back.
use Rattle.std.proofs.Common.{◌≡◌, length}
use Rattle.std.specs.List.{All}
use Rattle.poolsteps.proofs.directory_end.close_directory.Given as goal

abbrev pub invariant-loop-last : goal.invariant-loop-last
invariant-loop-last g l = record {
  next : l.directory.next ≡ l.end;
  at : l.directory.at ≡ l.fn.directory.at;
  lanes : All (λ lane. lane.directory ≡ l.fn.directory.at) l.lanes.items;
}

abbrev pub decreases-loop-last : goal.decreases-loop-last
decreases-loop-last g l = length l.lanes.items
