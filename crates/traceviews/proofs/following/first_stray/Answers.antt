use Rattle.std.proofs.Common.{◌+◌, arith, subst, sym, take}
use Rattle.traces.specs.Lawful.{first_words}
use Rattle.traceviews.specs.WordSteps.{FollowFrom, Follows, IsFirstStray, IsWrong, last_told, words_from}
use Rattle.traceviews.proofs.FollowLemmas.{follow_next, values_next, stray_next}
use Rattle.traceviews.proofs.following.first_stray.Goals as goal

pub returns-in-Some : goal.returns-in-Some
returns-in-Some c =
    let lines = c.args.lines.now in
    let at = c.loop-line in
    let words = words_from first_words (take at.line-index lines) in
    let wrong : IsWrong (last_told lines) words c.line-item.result.entry c.in-Some.wrong =
    rw (sym c.last_told-last.ensures) (c.in-Some.ensures words at.invariant.values) in
    let front : FollowFrom (last_told lines) first_words (take at.line-index lines) = rw (sym c.last_told-last.ensures) at.invariant.follow in
    subst (λ number. IsFirstStray (number + 1) c.in-Some.wrong lines) (sym at.invariant.counted)
    (stray_next lines at.line-index c.line-item.result c.in-Some.wrong c.loop-line-test.true c.line-item.is front wrong)

pub loop-line-preserved : goal.loop-line-preserved
loop-line-preserved c =
    let lines = c.args.lines.now in
    let at = c.loop-line in
    let words = words_from first_words (take at.line-index lines) in
    let follows : Follows c.last_told-last.result words c.line-item.result.entry = c.in_default.ensures words at.invariant.values in
    record {
      counted = omega arith;
      values = values_next c.note_line.new.values first_words lines at.line-index c.line-item.result c.loop-line-test.true c.line-item.is
          (c.in_ok-note_line.ensures words at.invariant.values);
      follow = follow_next c.last_told-last.result first_words lines at.line-index c.line-item.result c.loop-line-test.true c.line-item.is at.invariant.follow follows;
    }
