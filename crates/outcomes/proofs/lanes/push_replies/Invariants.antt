use Rattle.std.proofs.Common.{◌≡◌, ◌++◌, take}
use Rattle.outcomes.proofs.lanes.push_replies.Given as goal

abbrev pub invariant-loop-reply : goal.invariant-loop-reply
invariant-loop-reply l = l.replies ≡ l.initial.replies ++ take l.reply-index l.more
