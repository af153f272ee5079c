-- A lane without a reference has none in its rows.
use Rattle.std.proofs.Common.{arith}
use Rattle.shardpool.proofs.calls.Loans.{lending-of}
use Rattle.shardpool.proofs.lending.LendingLane.of.Goals as goal

pub invariant_of-result : goal.invariant_of-result
invariant_of-result g c =
    let fits = c.lane.invariant.1 in
    let all = fits.rows.by_acts in
    let is = rw (← c.lane.view_is) at c.refs.ensures in
    let none = c.if-refs-gt0.false in (c.lane.invariant.0, lending-of fits (omega (arith, all, is, none)))
