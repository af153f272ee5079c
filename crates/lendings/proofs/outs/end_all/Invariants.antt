-- Some ended by now, and those in front are still to be tried.
use Rattle.std.proofs.Common.{◌≤◌, length}
use Rattle.lendings.specs.Lenders.{AreOut}
use Rattle.lendings.specs.Outs.{loans_of, lender_of}
use Rattle.lendings.specs.Sweeps.{Sweeps}
use Rattle.lendings.proofs.outs.end_all.Given as goal

abbrev pub invariant-loop-index : goal.invariant-loop-index
invariant-loop-index g l = (l.index ≤ length l.out.items) × (length l.out.items ≤ length l.fn.out.items)
    × AreOut g.T.Clear.content g.T.Clear.room l.lane (loans_of l.out.items)
    × Sweeps g.T.Clear.content g.T.Clear.room l.pool (lender_of l.fn.lane l.fn.out.items) (lender_of l.lane l.out.items)

abbrev pub decreases-loop-index : goal.decreases-loop-index
decreases-loop-index g l = l.index
