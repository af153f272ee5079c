use Rattle.std.proofs.Common.{◌<◌, ℕ, List, length, arith, sym, subst}
use Rattle.shortening.specs.Parts.{IsPart}
use Rattle.shortening.proofs.PartLemmas.{part-without, shorter-without}
use Rattle.shortening.proofs.TrialLemmas.{passed-by}
use Rattle.shortening.proofs.shorter.without_one.Goals as goal

pub returns-then-branch-clause-some : goal.returns-then-branch-clause-some
returns-then-branch-clause-some g c =
    let at = c.loop-at.at in
    let whole = c.args.schedule.now in
    let left = c.in_ok-left.left.items in
    let is = sym c.in_ok-left.ensures in
    let passed = subst (g.T.Trial.passes c.loop-at.trial) c.as_slice.ensures.value (passed-by c.in_ok-is_passed.field-0 _ _ c.in_ok-is_passed.ensures.ok c.if-branch.true) in (
      subst (λ (s : List ℕ). IsPart s whole) is (part-without at 1 whole),
      c.loop-at.invariant.same.passed_before left passed,
      subst (λ (s : List ℕ). length s < length whole) is (shorter-without at 1 whole c.loop-at-test.true (omega arith)),
    )
