use Rattle.std.proofs.Common.{◌≡◌, ℕ, drop}
use Rattle.std.specs.BTreeMap.{get}
use Rattle.std.specs.Ordering.{nat_cmp}
use Rattle.traceviews.specs.Ends.{word_from, last_word}
use Rattle.traceviews.proofs.ends.ends_of.Given as goal

abbrev pub invariant-loop-line : goal.invariant-loop-line
invariant-loop-line l = (place : ℕ) → word_from (get nat_cmp l.words place) place (drop l.line-index l.lines) ≡ last_word place l.lines
