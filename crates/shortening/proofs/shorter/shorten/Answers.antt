use Rattle.std.proofs.Common.{subst}
use Rattle.std.proofs.lemmas.Result.{IfOk-weaker}
use Rattle.shortening.proofs.PartLemmas.{part-refl}
use Rattle.shortening.proofs.TrialLemmas.{kept-first, kept-next, passed-by, shortened-kept}
use Rattle.shortening.proofs.shorter.shorten.Goals as goal

pub returns-clause-ok : goal.returns-clause-ok
returns-clause-ok g c =
    let passes = g.T.Trial.passes in
    let fails = g.T.Trial.fails in
    let tries = g.T.Trial.tries in
    let first = c.args.trial.now in
    let tried = c.is_passed.new.self in
    let whole = c.args.schedule.items in
    let passed = subst (passes first) c.as_slice.ensures.value (passed-by c.in_ok-is_passed.field-0 _ _ c.in_ok-is_passed.ensures.ok c.if-not-branch.false) in
    let begun = kept-next _ _ _ (passes first) (fails first) (tries first) (passes tried) (fails tried) (tries tried) whole whole whole (kept-first (passes first) (fails first) (tries first) whole passed) (part-refl whole) passed c.is_passed.ensures.same in
    IfOk-weaker c.shorten_passed.result _ _ (λ short is. shortened-kept _ _ _ (passes tried) (fails tried) (tries tried) _ whole whole short begun is) c.shorten_passed.ensures.ok
