use Rattle.std.proofs.Common.{get_or, refl}
use Rattle.traceviews.specs.Summaries.{place_end_text}
use Rattle.traceviews.proofs.PageLemmas.{grows_next}
use Rattle.traceviews.proofs.summary.push_places.Goals as goal

pub loop-place-preserved : goal.loop-place-preserved
loop-place-preserved c =
    let at = c.loop-place in
    let ends = c.args.ends.now in
    grows_next place_end_text ends at.place-index (get_or ends at.place-index (0, 0)) (0, 0) c.args.out.now at.out c.push_place.new.out
    at.invariant c.push_place.ensures refl c.loop-place-test.true
