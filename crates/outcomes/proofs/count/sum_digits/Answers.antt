use Rattle.outcomes.proofs.CountLemmas.{sum-on, sum-done, sum-begun}
use Rattle.outcomes.proofs.count.sum_digits.Goals as goal

pub loop-left-init : goal.loop-left-init
loop-left-init c = sum-begun c.args.digits.now c.args.others.now c.new-sum.result.items c.requires.digits c.requires.others c.new-sum.ensures.items

pub loop-left-preserved : goal.loop-left-preserved
loop-left-preserved c =
    let l = c.loop-left in
    sum-on l.left.now l.right.now _ _ l.sum.items _ _ c.lowest.result c.lowest-in-loop-left.result l.carry l.invariant
    (c.are_none.ensures.some c.loop-left-test.true) c.lowest.ensures.value c.lowest-in-loop-left.ensures.value c.higher-left.ensures c.higher-right.ensures
    c.in_ok-push.ensures.items

pub returns : goal.returns
returns c =
    let l = c.loop-left in
    let done = sum-done c.args.digits.now c.args.others.now l.left.now l.right.now l.sum.items _ l.carry c.requires.digits c.requires.others
    l.invariant (c.are_none.ensures.none c.loop-left-test.false) c.in_ok-push_carry.ensures in
    record { digits = done.0; sum = done.1 }
