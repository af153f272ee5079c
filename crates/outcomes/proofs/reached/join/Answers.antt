use Rattle.std.proofs.Common.{inl, inr, refl}
use Rattle.outcomes.proofs.ScheduleLemmas.{upto-refl, upto-values}
use Rattle.outcomes.proofs.reached.join.Goals as goal

pub returns-then-comes_before : goal.returns-then-comes_before
returns-then-comes_before c =
    let other = c.args.other.schedule.items in
    record {
      way = inr (refl, refl);
      ways = c.in_ok-add.ensures.ok;
      before = upto-values _ _ _ _ c.as_slice.ensures.value c.as_slice-2.ensures.value (c.comes_before.ensures.before c.if-comes_before.true);
      first = upto-refl other;
    }

pub returns-else-comes_before : goal.returns-else-comes_before
returns-else-comes_before c =
    let kept = c.args.kept.now.schedule.items in
    record {
      way = inl (refl, refl);
      ways = c.in_ok-add.ensures.ok;
      before = upto-refl kept;
      first = upto-values _ _ _ _ c.as_slice-2.ensures.value c.as_slice.ensures.value (c.comes_before.ensures.behind c.if-comes_before.false);
    }
