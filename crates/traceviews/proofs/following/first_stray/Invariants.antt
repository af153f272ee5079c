use Rattle.std.proofs.Common.{◌≡◌, take}
use Rattle.traces.specs.Lawful.{first_words}
use Rattle.traceviews.specs.Values.{AreValues}
use Rattle.traceviews.specs.WordSteps.{FollowFrom, words_from}
use Rattle.traceviews.proofs.following.first_stray.Given as goal

-- the lines up to here follow from one another, and the values are those behind them
abbrev pub invariant-loop-line : goal.invariant-loop-line
invariant-loop-line l = record {
  counted : l.number ≡ l.line-index;
  values : AreValues l.values (words_from first_words (take l.line-index l.lines));
  follow : FollowFrom l.last first_words (take l.line-index l.lines);
}
