use Rattle.std.proofs.Common.{◌≡◌, ◌≤◌, take, count_by}
use Rattle.traceviews.specs.Ends.{is_end_in}
use Rattle.traceviews.proofs.ends.ends_in.Given as goal

abbrev pub invariant-loop-word : goal.invariant-loop-word
invariant-loop-word l = (l.count ≡ count_by (is_end_in l.state) (take l.word-index l.ends)) × (l.count ≤ l.word-index)
