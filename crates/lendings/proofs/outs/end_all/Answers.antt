-- One loan more was tried.
use Rattle.std.proofs.Common.{arith}
use Rattle.lendings.specs.Outs.{lender_of}
use Rattle.lendings.proofs.Sweeping.{sweeps-none, sweeps-tried, few-less}
use Rattle.lendings.proofs.outs.end_all.Goals as goal

pub loop-index-init : goal.loop-index-init
loop-index-init g c = (
  omega arith,
  omega arith,
  c.requires.out,
  sweeps-none g.T.Clear.content g.T.Clear.room c.args.pool.now (lender_of c.args.lane.now c.args.out.now.items) c.requires.owns,
)

pub loop-index-preserved : goal.loop-index-preserved
loop-index-preserved g c =
    let few = few-less _ _ _ c.end.ensures.len in let low = few.0 in let high = few.1 in let tried = c.end.ensures.ended in
    let was = c.loop-index.invariant.0 in let less = c.loop-index.invariant.1 in (
      omega (arith, low, was),
      omega (arith, high, less),
      c.end.ensures.out,
      sweeps-tried g.T.Clear.content g.T.Clear.room c.args.pool.now (lender_of c.args.lane.now c.args.out.now.items) (lender_of c.loop-index.lane c.loop-index.out.items)
          (lender_of c.end.new.lane c.end.new.out.items) tried.0.key c.end.result c.loop-index.invariant.3 tried.2 c.end.ensures.owns c.end.ensures.same tried.3,
    )
