use Rattle.std.proofs.lemmas.Result.{IfOk-weaker}
use Rattle.shortening.proofs.TrialLemmas.{kept-first, kept-next, shortened-kept}
use Rattle.shortening.proofs.shorter.shorten_passed.Goals as goal

pub returns-clause-ok : goal.returns-clause-ok
returns-clause-ok g c =
    let passes = g.T.Trial.passes in
    let fails = g.T.Trial.fails in
    let tries = g.T.Trial.tries in
    let first = c.args.trial.now in
    let narrowed = c.narrow.new.trial in
    let whole = c.args.schedule.items in
    let kept = c.in_ok-kept.ensures.ok in
    let begun = kept-first (passes first) (fails first) (tries first) whole c.requires.passed in
    let done = kept-next _ _ _ (passes first) (fails first) (tries first) (passes narrowed) (fails narrowed) (tries narrowed) whole whole c.in_ok-kept.kept.items begun kept.0 kept.1 c.narrow.ensures.same in
    IfOk-weaker c.settle.result _ _ (λ short is. shortened-kept _ _ _ (passes narrowed) (fails narrowed) (tries narrowed) _ whole c.in_ok-kept.kept.items short done is) c.settle.ensures.ok
