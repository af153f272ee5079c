use Rattle.std.proofs.Common.{◌≡◌, ◌++◌, take}
use Rattle.std.specs.List.{flat_map}
use Rattle.traces.specs.Text.{reply_line}
use Rattle.traces.proofs.text.write_replies.Given as goal

abbrev pub invariant-loop-reply : goal.invariant-loop-reply
invariant-loop-reply l = l.out.items ≡ l.fn.out.items ++ flat_map (reply_line l.lane) (take l.reply-index l.replies)
