-- Each round of the loop waits for one end more.
use Rattle.std.proofs.Common.{arith, ap, [], ◌∷◌, ◌++◌, length}
use Rattle.std.specs.Prelude.{vec_items}
use Rattle.std.specs.Vec.Iter.{into_iter_items}
use Rattle.workers.specs.Begins.{IsFinished}
use Rattle.workers.proofs.Pairs.{pairs-add, next-first, holds-first}
use Rattle.workers.proofs.threads.finish_all.Goals as goal

pub loop-one-preserved : goal.loop-one-preserved
loop-one-preserved g c =
    let inv = c.loop-one.invariant in
    let step = c.in-Some.ensures.steps in
    let old = into_iter_items c.loop-one.one-iterator in
    let rest = into_iter_items c.next.new.self in
    let pushed = c.push_reserved.ensures in
    let dones = vec_items c.loop-one.dones in
    let shorter = ap length step.0 in (
      (
        inv.0.0 ++ c.in-Some.one ∷ [],
        next-first (vec_items c.args.begun) inv.0.0 old rest c.in-Some.one inv.0.1 step.0,
        rw pushed.items (pairs-add (IsFinished g.G.Gate.says) inv.0.0 dones c.in-Some.one c.finish.result inv.0.2 c.finish.ensures.answer),
      ),
      (holds-first g.G.Gate.says old rest c.in-Some.one step.0 inv.1).1,
      omega (arith, shorter, step.1, inv.2),
      omega (arith, pushed.len, pushed.capacity, step.1, inv.3),
    )
