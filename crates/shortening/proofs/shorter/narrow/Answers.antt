use Rattle.shortening.proofs.TrialLemmas.{kept-first, kept-next}
use Rattle.shortening.proofs.shorter.narrow.Goals as goal

pub loop-count-init : goal.loop-count-init
loop-count-init g c = kept-first (g.T.Trial.passes c.args.trial.now) (g.T.Trial.fails c.args.trial.now) (g.T.Trial.tries c.args.trial.now) c.args.schedule.items c.requires.passed

pub loop-count-preserved : goal.loop-count-preserved
loop-count-preserved g c =
    let trial = c.loop-count.trial in
    let kept = c.in_ok-kept.ensures.ok in
    kept-next _ _ _ (g.T.Trial.passes trial) (g.T.Trial.fails trial) (g.T.Trial.tries trial) _ _ _ c.args.schedule.items c.loop-count.kept.items c.in_ok-kept.kept.items c.loop-count.invariant kept.0 kept.1 c.sweep.ensures.same
