use Rattle.std.proofs.Common.{List, ℕ, subst}
use Rattle.shortening.specs.Parts.{IsPart}
use Rattle.shortening.proofs.TrialLemmas.{kept-first, kept-next}
use Rattle.shortening.proofs.shorter.settle.Goals as goal

pub loop-kept-init : goal.loop-kept-init
loop-kept-init g c = kept-first (g.T.Trial.passes c.args.trial.now) (g.T.Trial.fails c.args.trial.now) (g.T.Trial.tries c.args.trial.now) c.args.schedule.items c.requires.passed

pub loop-kept-preserved : goal.loop-kept-preserved
loop-kept-preserved g c =
    let trial = c.loop-kept.trial in
    let left = c.in-Some.left.items in
    let found = rw c.in-Some.is at c.in_ok-left.ensures.some in
    let part = subst (λ (whole : List ℕ). IsPart left whole) c.as_slice.ensures.value found.0 in
    kept-next _ _ _ (g.T.Trial.passes trial) (g.T.Trial.fails trial) (g.T.Trial.tries trial) _ _ _ c.args.schedule.items c.loop-kept.kept.items left c.loop-kept.invariant part found.1 c.without_one.ensures.same
