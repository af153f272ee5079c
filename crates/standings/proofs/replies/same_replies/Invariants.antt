use Rattle.std.proofs.Common.{◌≡◌, take}
use Rattle.standings.proofs.replies.same_replies.Given as goal

abbrev pub invariant-loop-i : goal.invariant-loop-i
invariant-loop-i l = take l.i l.replies ≡ take l.i l.others
