use Rattle.std.proofs.Common.{◌≡◌, take}
use Rattle.outcomes.proofs.lanes.are_same.Given as goal

abbrev pub invariant-loop-i : goal.invariant-loop-i
invariant-loop-i l = take l.i l.replies ≡ take l.i l.others
