use Rattle.std.proofs.Common.{◌≡◌, ◌≤◌, take, count_by}
use Rattle.traceviews.specs.Counts.{is_reply_of}
use Rattle.traceviews.proofs.counts.replies_of.Given as goal

abbrev pub invariant-loop-line : goal.invariant-loop-line
invariant-loop-line l = (l.count ≡ count_by (is_reply_of l.lane) (take l.line-index l.lines)) × (l.count ≤ l.line-index)
