use Rattle.std.proofs.Common.{◌∙◌, ℕ, List, sym, ap, subst}
use Rattle.shortening.specs.Parts.{IsPart, without}
use Rattle.shortening.proofs.PartLemmas.{part-without}
use Rattle.shortening.proofs.TrialLemmas.{kept-first, kept-next, passed-by}
use Rattle.shortening.proofs.shorter.sweep.Goals as goal

pub loop-at-init : goal.loop-at-init
loop-at-init g c = kept-first (g.T.Trial.passes c.args.trial.now) (g.T.Trial.fails c.args.trial.now) (g.T.Trial.tries c.args.trial.now) c.args.schedule.items c.requires.passed

pub loop-at-preserved-then-branch : goal.loop-at-preserved-then-branch
loop-at-preserved-then-branch g c =
    let passes = g.T.Trial.passes in
    let fails = g.T.Trial.fails in
    let trial = c.loop-at.trial in
    let left = c.in_ok-left.left.items in
    let part : IsPart left c.loop-at.kept.items =
    subst (λ (s : List ℕ). IsPart s c.loop-at.kept.items) (sym (c.in_ok-left.ensures ∙ ap (without c.loop-at.at c.args.count) c.as_slice.ensures.value)) (part-without c.loop-at.at c.args.count c.loop-at.kept.items) in
    let passed = subst (passes trial) c.as_slice-in-loop-at.ensures.value (passed-by c.in_ok-is_passed.field-0 _ _ c.in_ok-is_passed.ensures.ok c.if-branch.true) in
    kept-next _ _ _ (passes trial) (fails trial) (g.T.Trial.tries trial) _ _ _ c.args.schedule.items c.loop-at.kept.items left c.loop-at.invariant part passed c.is_passed.ensures.same
