use Rattle.std.proofs.Common.{◌≡◌, ◌++◌, take}
use Rattle.std.specs.List.{flat_map}
use Rattle.traces.specs.Text.{reply_line}
use Rattle.outcomes.proofs.texts.write_replies.Given as goal

abbrev pub invariant-loop-reply : goal.invariant-loop-reply
invariant-loop-reply l = l.text.items ≡ l.fn.text.items ++ flat_map (reply_line l.lane) (take l.reply-index l.replies)
